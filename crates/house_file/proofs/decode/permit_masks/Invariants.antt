-- Invariant: the masks of the parties below u have their permits, the others are empty.
use Rattle.std.proofs.Common.{◌≡◌, ℕ, ◌≤◌, ◌<◌}
use Rattle.masks.specs.promises.Mask.{test_bit}
use Rattle.masks.specs.promises.Table.{mask_in, mask_at}
use Rattle.masks.specs.declared.Row.{Row}
use Rattle.masks.specs.declared.Table.{Table}
use Rattle.house_file.proofs.decode.permit_masks.Given as goal

pub record PermitsTo (kinds : Table) (permits : Row) (u : ℕ) : Type 0 where
  pub filled : (x v : ℕ) → x < u → test_bit (mask_in permits x) v ≡ test_bit (mask_at kinds x v) 31
  pub empty : (x : ℕ) → u ≤ x → mask_in permits x ≡ 0

abbrev pub invariant-loop-u : goal.invariant-loop-u
invariant-loop-u l = PermitsTo l.kinds l.permits l.u
