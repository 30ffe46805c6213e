use Rattle.letters.proofs.FollowLaws.{past_same, past_more}
use Rattle.letters.proofs.follow.letters_past.Goals as goal
use Rattle.letters.proofs.follow.letters_past.Goals.{then-z-x, else-z-x}

pub loop-z-preserved : goal.loop-z-preserved
loop-z-preserved c =
    let l = c.loop-z in
    elim c.if-z-x.branch [
      | then-z-x w ↦ rw w.letters-is (past_more c.args.g.now _ _ l.z l.letters l.invariant)
      | else-z-x w ↦ rw w.letters-is (past_same c.args.g.now _ _ l.z l.letters l.invariant w.if-z-x.false)
    ]
