-- Invariant: the masks of the parties below v have the symbols that hold, the others are empty.
use Rattle.std.proofs.Common.{◌≡◌, ℕ, ◌≤◌, ◌<◌}
use Rattle.masks.specs.promises.Mask.{test_bit}
use Rattle.masks.specs.promises.Table.{mask_in}
use Rattle.masks.specs.declared.Row.{Row}
use Rattle.masks.specs.declared.Table.{Table}
use Rattle.rebac.specs.Matter.{Matter}
use Rattle.rebac.specs.Symbols.{holds}
use Rattle.graph.specs.declared.words.WordRule.{WordRule}
use Rattle.graph.specs.promises.Symbols.{Records}
use Rattle.graph.proofs.enlarge.enlarge_row.Given as goal

pub record MasksTo (words : WordRule) (n : ℕ) (u : ℕ) (k : Table) (row : Row) (v : ℕ) : Type 0 where
  pub filled : (M : Matter) → Records M n words k → (x s : ℕ) → x < v → test_bit (mask_in row x) s ≡ holds M u x s
  pub empty : (x : ℕ) → v ≤ x → mask_in row x ≡ 0

abbrev pub invariant-loop-v : goal.invariant-loop-v
invariant-loop-v l = MasksTo l.words l.n l.u l.kinds l.row l.v
