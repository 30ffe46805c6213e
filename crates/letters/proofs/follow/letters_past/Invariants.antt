-- Invariant: `letters` has those to each party before z other than x (FollowLaws).
use Rattle.letters.specs.promises.Following.{LeadsPast}
use Rattle.letters.proofs.follow.letters_past.Given as goal

abbrev pub invariant-loop-z : goal.invariant-loop-z
invariant-loop-z l = LeadsPast l.g l.x l.y l.z l.letters
