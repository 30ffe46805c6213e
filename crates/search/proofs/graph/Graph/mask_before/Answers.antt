use Rattle.std.proofs.Common.{sym, ◌∙◌}
use Rattle.search.proofs.WalkPairLaws.{steps_with, steps_without}
use Rattle.search.proofs.graph.Graph.mask_before.Goals as goal
use Rattle.search.proofs.graph.Graph.mask_before.Goals.{then-is_in, else-is_in}

pub loop-x-preserved : goal.loop-x-preserved
loop-x-preserved c =
    let s = c.args.s.number in
    let row = c.args.row.now in
    let l = c.loop-x in
    elim c.if-is_in.branch [
      | then-is_in w ↦ rw w.mask-is (steps_with _ s row l.mask l.x l.invariant)
      | else-is_in w ↦ rw w.mask-is (steps_without _ s row l.mask l.x l.invariant (sym c.is_in.ensures ∙ w.if-is_in.false))
    ]
