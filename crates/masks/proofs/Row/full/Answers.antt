-- Every element of a repeat is the repeated one, and a mask of 32 ones has every place.
use Rattle.std.proofs.Common.{◌∙◌, ap, ℕ}
use Rattle.std.proofs.Math.ListN.{get_or-replicate}
use Rattle.masks.specs.promises.Mask.{test_bit}
use Rattle.masks.proofs.BitLaws.{ones_bit}
use Rattle.masks.proofs.Row.full.Goals as goal

pub returns : goal.returns
returns c u v h k = ap (λ (m : ℕ). test_bit m v) (get_or-replicate 32 u 4294967295 0 h) ∙ ones_bit 32 v k
