-- Each refusal has its law; the search gives the least path, and the ones of its visited mask are the number of its parties.
use Rattle.std.proofs.Common.{◌≡◌, refl, sym, ap, ◌∙◌, Some, Ok, ℕ, ◌∷◌, length, take, arith, set, length-take-le}
use Rattle.graph.proofs.ShownLaws.{shown_by}
use Rattle.paths.specs.Calls.{found}
use Rattle.paths.proofs.CallLaws.{pair_is, legal_length, path_given, path_fits, path_not}
use Rattle.paths.proofs.CallLaws.{path_answer}
use Rattle.paths.proofs.call.path_in.Goals as goal

pub returns-in_default : goal.returns-in_default
returns-in_default c =
    λ M S.
    let a = c.args in
    let given = c.in_ok-pair.ensures in
    let p = pair_is M a.a.now S _ _ given.0 in
    let g = c.in_ok-word.ensures M S in
    let no = path_not M a.a.now S _ _ c.in_ok-pair.pair given a.w c.in_ok-word.word g c.in_default.ensures in
    rw (path_answer M _ _ a.w (length a.out.now) p g.0 c.if-len-eq0.false c.if-out-len.false ∙ ap found no) (refl, refl)

pub overflow_add-len : goal.overflow_add-len
overflow_add-len c =
    let s = shown_by c.args.a.now in
    let g = c.in_ok-word.ensures s.0 s.1 in
    omega (arith, legal_length s.0 c.args.w g.0, s.1.limits.longest.1)

pub slice_bounds-copy_from_slice-end : goal.slice_bounds-copy_from_slice-end
slice_bounds-copy_from_slice-end c =
    let a = c.args in
    let f = path_fits a.a.now _ _ c.in_ok-pair.pair c.in_ok-pair.ensures a.w c.in_ok-word.word c.in_ok-word.ensures _ c.in-Ok.ensures in
    omega (arith, f.0, c.if-out-len.false)

pub slice_bounds-copy_from_slice-end-2 : goal.slice_bounds-copy_from_slice-end-2
slice_bounds-copy_from_slice-end-2 c =
    let a = c.args in
    let f = path_fits a.a.now _ _ c.in_ok-pair.pair c.in_ok-pair.ensures a.w c.in_ok-word.word c.in_ok-word.ensures _ c.in-Ok.ensures in
    sym (length-take-le _ _ (omega (arith, f.0, c.if-out-len.false)))

pub copy_from_slice-requires : goal.copy_from_slice-requires
copy_from_slice-requires c =
    let a = c.args in
    let f = path_fits a.a.now _ _ c.in_ok-pair.pair c.in_ok-pair.ensures a.w c.in_ok-word.word c.in_ok-word.ensures _ c.in-Ok.ensures in
    length-take-le _ _ (omega (arith, f.0, c.if-out-len.false)) ∙ sym (length-take-le _ _ f.1)

pub returns : goal.returns
returns c =
    λ M S.
    let a = c.args in
    let given = c.in_ok-pair.ensures in
    let p = pair_is M a.a.now S _ _ given.0 in
    let g = c.in_ok-word.ensures M S in
    let f = path_given M a.a.now S _ _ c.in_ok-pair.pair given a.w c.in_ok-word.word g _ c.in-Ok.ensures in
    let e = path_answer M _ _ a.w (length a.out.now) p g.0 c.if-len-eq0.false c.if-out-len.false ∙ ap found f.least in
    let parties = set c.in-Ok.path.parties 0 a.first in
    let q : c.copy_from_slice.new.self ≡ a.first ∷ f.via =
    c.copy_from_slice.ensures.after ∙ ap (λ (k : ℕ). take k parties) f.count ∙ f.bytes in
    rw e (ap (λ (n : ℕ). Ok (Some n)) f.count, rw (q, f.count))
