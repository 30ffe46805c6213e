-- One check more, then those from the place that it gives; the first that gives none ends them.
use Rattle.std.proofs.Common.{refl}
use Rattle.rule_bytes.proofs.ReadingLaws.{many_from}
use Rattle.rule_bytes.proofs.check.check_parts.Goals as goal

pub returns-in_err-place : goal.returns-in_err-place
returns-in_err-place g c =
    rw c.from_residual.ensures
    (c.loop.invariant.1 _ (many_from _ c.args.number c.loop.counter _ _ _ c.loop-test.true c.in_err-place.ensures refl))

pub loop-preserved : goal.loop-preserved
loop-preserved g c =
    let given = c.in_ok-place.ensures in (
      c.requires.onward _ _ given,
      λ r h. c.loop.invariant.1 r (many_from _ c.args.number c.loop.counter _ _ _ c.loop-test.true given h),
    )
