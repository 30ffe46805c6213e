-- Invariant: `used` has the symbols that hold for a pair with a number below k (WritingLaws).
use Rattle.letters.specs.promises.Writing.{UsedBelow}
use Rattle.letters.proofs.least.used_symbols.Given as goal

abbrev pub invariant-loop-k : goal.invariant-loop-k
invariant-loop-k l = UsedBelow l.g l.k l.used
