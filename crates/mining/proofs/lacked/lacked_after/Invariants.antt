-- A map shows that the other pair has all words. Else those passed so far are had by it, as those up to `had` are, so the first lacked
-- one stands after them.
-- Invariant: the other pair has every word up to w, which from the first turn on is one of the pair's.
use Rattle.std.proofs.Common.{◌≤◌, ◌<◌}
use Rattle.mining.specs.promises.Kept.{HadQuery}
use Rattle.mining.proofs.lacked.lacked_after.Given as goal

abbrev pub invariant-loop : goal.invariant-loop
invariant-loop l = HadQuery l.t l.w.word × (0 < l.counter → 1 ≤ l.w.word.len)
