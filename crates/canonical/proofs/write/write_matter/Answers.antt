-- The size is the file's, by the number past the last record; the test decides the answer.
use Rattle.std.proofs.Common.{Ok, refl, sym, ap, ◌∙◌, arith, length, rules}
use Rattle.fields.specs.promises.Writing.{put}
use Rattle.house_layout.specs.Layout.{record_size}
use Rattle.canonical.specs.Canonical.{canonical_of, written_edition}
use Rattle.canonical.specs.promises.Masks.{matter_in}
use Rattle.fields.proofs.PutLaws.{put_first}
use Rattle.canonical.proofs.EntryLaws.{count_bounded}
use Rattle.canonical.proofs.StandsLaws.{stands_canonical, stands_size, past_last, short_in, fits_in}
use Rattle.canonical.proofs.write.write_matter.Goals as goal

pub overflow_mul-size-2 : goal.overflow_mul-size-2
overflow_mul-size-2 c =
    let M = matter_in c.args.h c.args.kinds in
    omega (arith, past_last M c.first_numbers-firsts.result c.first_numbers-firsts.ensures, count_bounded M (search rules) (search rules))

pub overflow_add-size-2 : goal.overflow_add-size-2
overflow_add-size-2 c =
    let M = matter_in c.args.h c.args.kinds in
    omega (arith, past_last M c.first_numbers-firsts.result c.first_numbers-firsts.ensures, count_bounded M (search rules) (search rules))

pub returns-then-out-size : goal.returns-then-out-size
unfolding record_size
returns-then-out-size c =
    λ M S.
    let a = c.args in
    let f = c.first_numbers-firsts in
    let n = stands_size written_edition M a.h a.kinds f.result S f.ensures in
    rw (short_in (canonical_of written_edition M) (length a.out.now) (omega (arith, c.if-out-size.true))) (refl, refl)

pub returns : goal.returns
unfolding record_size
returns c =
    λ M S.
    let a = c.args in
    let f = c.first_numbers-firsts in
    let n = stands_size written_edition M a.h a.kinds f.result S f.ensures in
    let e = fits_in (canonical_of written_edition M) (length a.out.now) (omega (arith, c.if-out-size.false)) in
    let s = stands_canonical written_edition M a.h a.kinds S in
    let o = c.put_file.ensures ∙ ap (put a.out.now 0) s ∙ put_first a.out.now (canonical_of written_edition M) in
    rw e (ap Ok (sym n), o)
