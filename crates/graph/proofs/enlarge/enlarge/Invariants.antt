-- Invariant: the rows of the parties below u have the symbols that hold, the others are empty.
use Rattle.std.proofs.Common.{◌≡◌, ℕ, ◌≤◌, ◌<◌}
use Rattle.masks.specs.promises.Mask.{test_bit}
use Rattle.masks.specs.promises.Table.{mask_at}
use Rattle.masks.specs.declared.Table.{Table}
use Rattle.rebac.specs.Matter.{Matter}
use Rattle.rebac.specs.Symbols.{holds}
use Rattle.graph.specs.declared.words.WordRule.{WordRule}
use Rattle.graph.specs.promises.Symbols.{Records}
use Rattle.graph.proofs.enlarge.enlarge.Given as goal

pub record RowsTo (words : WordRule) (n : ℕ) (k table : Table) (u : ℕ) : Type 0 where
  pub filled : (M : Matter) → Records M n words k → (x v s : ℕ) → x < u → test_bit (mask_at table x v) s ≡ holds M x v s
  pub empty : (x v : ℕ) → u ≤ x → mask_at table x v ≡ 0

abbrev pub invariant-loop-u : goal.invariant-loop-u
invariant-loop-u l = RowsTo l.words l.n l.kinds l.table l.u
