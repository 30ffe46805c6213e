-- Invariant: the mask is filled for the parties below v.
use Rattle.std.proofs.Common.{Bool, ℕ}
use Rattle.masks.specs.promises.Mask.{test_bit}
use Rattle.masks.specs.promises.Table.{mask_in}
use Rattle.masks.specs.declared.Row.{Row}
use Rattle.masks.proofs.MaskLaws.{Filled}
use Rattle.house_file.proofs.decode.permit_mask.Given as goal

-- the parties that a row has a permit for
abbrev pub permits : Row → ℕ → Bool
permits row x = test_bit (mask_in row x) 31

abbrev pub invariant-loop-v : goal.invariant-loop-v
invariant-loop-v l = Filled (permits l.row) l.v l.mask
