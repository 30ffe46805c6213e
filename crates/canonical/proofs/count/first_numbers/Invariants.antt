-- Invariant: the numbers of the first records are stored for the parties up to u, and `number` is the last of them.
use Rattle.std.proofs.Common.{◌≡◌, List, ℕ, length}
use Rattle.canonical.specs.promises.Masks.{matter_by}
use Rattle.canonical.specs.declared.matter.MatterIn.{MatterIn}
use Rattle.canonical.proofs.CountLaws.{Numbered}
use Rattle.canonical.proofs.count.first_numbers.Given as goal

pub record NumberedTo (m : MatterIn) (numbers : List ℕ) (number u : ℕ) : Type 0 where
  pub places : length numbers ≡ 33
  pub numbered : Numbered (matter_by m) numbers number u

abbrev pub invariant-loop-u : goal.invariant-loop-u
invariant-loop-u l = NumberedTo l.m l.numbers l.number l.u
