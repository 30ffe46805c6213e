-- Invariant: the letters of each pair before k are followed by those that lead on from it (FollowLaws).
use Rattle.letters.specs.promises.Following.{FollowsBelow}
use Rattle.letters.proofs.follow.followers.Given as goal

abbrev pub invariant-loop-k : goal.invariant-loop-k
invariant-loop-k l = FollowsBelow l.g l.k l.row
