use Rattle.std.proofs.Common.{◌≡◌, refl, sym, ap, ◌∙◌, arith, Ok, rules}
use Rattle.mining.specs.declared.build.Pair.{Pair}
use Rattle.conversion.specs.promises.Passes.{verdict_by}
use Rattle.conversion.proofs.JudgeLaws.{judge_two, judge_number, judge_due, judge_over, judge_query, judge_bound}
use Rattle.conversion.proofs.JudgeLaws.{judge_term, judge_hindered, judge_end}
use Rattle.house_layout.proofs.Exits.{left_with}
use Rattle.conversion.proofs.MappedLaws.{mapped_ok, mapped_err}
use Rattle.conversion.proofs.verdict.judge_into.Goals as goal

pub loop-k-preserved-then-not-is_due : goal.loop-k-preserved-then-not-is_due
loop-k-preserved-then-not-is_due c =
    let J = c.loop-k.invariant in
    judge_over c.requires J c.loop-k-test.true (judge_due c.requires J c.is_due.ensures c.if-not-is_due.true)

pub take_due-requires : goal.take_due-requires
take_due-requires c =
    let J = c.loop-k.invariant in
    let d = judge_due c.requires J c.is_due.ensures c.if-not-is_due.false in
    judge_query c.requires J c.loop-k-test.true d c.min-at.ensures

pub returns-in_err-t : goal.returns-in_err-t
returns-in_err-t c =
    let J = c.loop-k.invariant in
    let d = judge_due c.requires J c.is_due.ensures c.if-not-is_due.false in
    let m = mapped_err _ _ c.take_due.result c.in_err-t.ensures.cases (sym c.in_err-t.ensures.variant) in
    let h : c.in_err-t.field-0.0 ≡ record { pair = c.at-pair.result; obstacle = m.0 } = search rules in
    let T = rw m.1.0 at (c.take_due.ensures J.list J.pass.marks) in
    rw (left_with c.from_residual.result c.from_residual.ensures.1, h)
    (ap (λ (p : Pair). Ok (verdict_by p m.0)) c.at-pair.ensures ∙ judge_hindered c.requires J c.loop-k-test.true d c.min-at.ensures _ m.0 T)

pub overflow_add-size : goal.overflow_add-size
overflow_add-size c =
    let J = c.loop-k.invariant in
    let d = judge_due c.requires J c.is_due.ensures c.if-not-is_due.false in
    let t = mapped_ok _ c.take_due.result c.in_ok-t.ensures.cases c.in_ok-t.ensures.variant refl in
    let T = rw t at (c.take_due.ensures J.list J.pass.marks) in
    let b = judge_bound c.requires J c.loop-k-test.true d c.min-at.ensures _ c.in_ok-t.t T in
    omega (arith, J.pass.bound, b, c.loop-k-test.true, c.args.a.now.graph.within)

pub loop-k-preserved : goal.loop-k-preserved
loop-k-preserved c =
    let J = c.loop-k.invariant in
    let d = judge_due c.requires J c.is_due.ensures c.if-not-is_due.false in
    let t = mapped_ok _ c.take_due.result c.in_ok-t.ensures.cases c.in_ok-t.ensures.variant refl in
    let T = rw t at (c.take_due.ensures J.list J.pass.marks) in
    judge_term c.requires J c.loop-k-test.true d c.min-at.ensures _ c.in_ok-t.t T

pub put_u16-requires : goal.put_u16-requires
put_u16-requires c =
    let R = c.requires in
    let J = c.loop-k.invariant in
    (omega (arith, judge_number R J), omega (arith, J.kept, judge_two c.args.a.now _ _ R))

pub returns : goal.returns
returns c = judge_end c.requires c.loop-k.invariant (omega (arith, c.loop-k-test.false)) c.put_u16.ensures
