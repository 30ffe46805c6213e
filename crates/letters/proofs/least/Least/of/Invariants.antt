-- Invariant: the symbols below `number` are looked at (WritingLaws).
use Rattle.letters.specs.promises.Writing.{LeastOf}
use Rattle.letters.proofs.least.Least.of.Given as goal

abbrev pub invariant-loop-number : goal.invariant-loop-number
invariant-loop-number l = LeastOf l.g l.number l.l
