-- Invariant: the letters before b have those after them too (FollowLaws).
use Rattle.letters.specs.promises.Following.{AfterAdded}
use Rattle.letters.proofs.follow.with_after.Given as goal

abbrev pub invariant-loop-b : goal.invariant-loop-b
invariant-loop-b l = AfterAdded l.initial.more l.mask l.after l.b l.more
