use Rattle.std.proofs.Common.{arith}
use Rattle.std.proofs.Math.Logic.{by_cases}
use Rattle.std.proofs.Math.Decide.{ℕ_discrete}
use Rattle.masks.specs.promises.Table.{mask_in}
use Rattle.masks.proofs.BitLaws.{test_with_same}
use Rattle.search.proofs.graph.Graph.unmoved.Goals as goal

pub loop-u-preserved : goal.loop-u-preserved
loop-u-preserved c x h =
    let l = c.loop-u in
    let e = c.add-row.ensures in
    by_cases (ℕ_discrete x l.u)
    (λ q. rw (q, e.same) (test_with_same (mask_in l.row l.u) l.u))
    (λ q. rw (e.other x q) (l.invariant x (omega (arith, q))))
