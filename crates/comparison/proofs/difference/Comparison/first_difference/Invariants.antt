-- Invariant: the first difference is the first among the pairs of number k and above.
use Rattle.std.proofs.Common.{List}
use Rattle.rebac.specs.Matter.{Matter}
use Rattle.rebac.specs.Words.{Word}
use Rattle.comparison.specs.promises.Given.{Given}
use Rattle.comparison.proofs.CompareLaws.{Left}
use Rattle.comparison.proofs.difference.Comparison.first_difference.Given as goal

abbrev pub invariant-loop-k : goal.invariant-loop-k
invariant-loop-k l = (M : Matter) (r : List (List Word)) (h : Given M r l.self.archive.now l.self.list.now)
    → Left M r l.self.archive.now l.self.list.now h l.k
