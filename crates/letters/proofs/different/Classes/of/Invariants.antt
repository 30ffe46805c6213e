-- Invariant: the masks of the pairs with a number below k are classes (WritingLaws).
use Rattle.letters.specs.promises.Writing.{ClassesOf}
use Rattle.letters.proofs.different.Classes.of.Given as goal

abbrev pub invariant-loop-k : goal.invariant-loop-k
invariant-loop-k l = ClassesOf l.g l.k l.c
