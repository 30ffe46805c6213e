-- The next word after the last kept one is kept and tested; past the last that has room, lacked_after goes on.
-- Invariant: the counter is the number of the words kept, w is the last of them, and the other pair has them all.
use Rattle.std.proofs.Common.{◌≡◌}
use Rattle.mining.specs.promises.Kept.{OnwardQuery}
use Rattle.mining.proofs.kept.Kept.lacked_onward.Given as goal

abbrev pub invariant-loop : goal.invariant-loop
invariant-loop l = OnwardQuery l.t l.self l.w.word × (l.self.number ≡ l.counter)
