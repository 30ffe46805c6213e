-- Each refusal by its test; past them the list is written, and its marks as the table.
use Rattle.std.proofs.Common.{◌≡◌, refl, sym, ◌≤◌, arith, length, rules}
use Rattle.house_layout.proofs.Exits.{left_with}
use Rattle.house_layout.specs.declared.reply.Refusal.TheVariants.{Inconvertible}
use Rattle.conversion.proofs.MappedLaws.{mapped_ok, mapped_err}
use Rattle.conversion.proofs.AnswerLaws.{mined_scratch, mined_hindered, mined_short, mined_writes}
use Rattle.conversion.proofs.mine.mine_in.Goals as goal

pub returns-then-scratch-lt-SCRATCH_SIZE : goal.returns-then-scratch-lt-SCRATCH_SIZE
returns-then-scratch-lt-SCRATCH_SIZE c M S =
    let x = c.args in
    mined_scratch x.a.now S x.scratch.now x.out.now c.if-scratch-lt-SCRATCH_SIZE.true

pub returns-then-out-j : goal.returns-then-out-j
returns-then-out-j c M S =
    let x = c.args in
    let r = c.empty in
    let n : 1024 ≤ length x.scratch.now = omega (arith, c.if-scratch-lt-SCRATCH_SIZE.false) in
    let J = rw (mapped_ok _ c.judge_into.result c.in_ok-j.ensures.cases c.in_ok-j.ensures.variant refl) at c.judge_into.ensures in
    mined_short x.a.now S x.scratch.now x.out.now n J.0 c.if-out-j.true r.result r.ensures _ c.put_table.ensures

pub returns : goal.returns
returns c M S =
    let x = c.args in
    let n : 1024 ≤ length x.scratch.now = omega (arith, c.if-scratch-lt-SCRATCH_SIZE.false) in
    let J = rw (mapped_ok _ c.judge_into.result c.in_ok-j.ensures.cases c.in_ok-j.ensures.variant refl) at c.judge_into.ensures in
    let o : c.in_ok-j.j.size ≤ length x.out.now = omega (arith, c.if-out-j.false) in
    mined_writes x.a.now S x.scratch.now x.out.now n J.0 o
    c.write_list-marks.result _ _ c.write_list-marks.ensures c.put_table-2.ensures

pub returns-in_err-j : goal.returns-in_err-j
returns-in_err-j c M S =
    let x = c.args in
    let n : 1024 ≤ length x.scratch.now = omega (arith, c.if-scratch-lt-SCRATCH_SIZE.false) in
    let m = mapped_err _ _ c.judge_into.result c.in_err-j.ensures.cases (sym c.in_err-j.ensures.variant) in
    let e : c.in_err-j.field-0.0 ≡ Inconvertible = search rules in
    let J = rw m.1.0 at c.judge_into.ensures in
    rw (left_with c.from_residual.result c.from_residual.ensures.1, e)
    (mined_hindered x.a.now S x.scratch.now x.out.now n _ _ J)
