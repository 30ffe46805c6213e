-- Each turn of the loop is a letter of the definition (SeekLaws); where no word with classes tells, none does (PrefixLaws).
-- Invariant: no word with a letter before c at the place tells. Measure over the calls: the places left and the classes.
use Rattle.std.proofs.Common.{◌+◌, ◌-◌}
use Rattle.classes.proofs.SeekLaws.{Turn}
use Rattle.classes.proofs.pairs.PairsInLetters.+seek.Given as goal

abbrev pub decreases-seek : goal.decreases-seek
decreases-seek l = (l.w.word.len - l.at) + (l.self.now.span.end - l.high)

abbrev pub invariant-loop-c : goal.invariant-loop-c
invariant-loop-c l = Turn l.fn.self.pairs l.fn.w.word l.fn.at l.fn.low l.fn.high l.c
