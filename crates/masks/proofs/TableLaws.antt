-- Rows and tables made by a repeat: every element is the repeated one. Assumes nothing.
use Rattle.std.proofs.Common.{◌≡◌, refl, ℕ, zero, suc, get_or, replicate}
use Rattle.masks.specs.promises.Table.{no_row, mask_in}
use Rattle.masks.specs.declared.Row.{Row}

pub get_or_zeros : (n i : ℕ) → get_or {A = ℕ} (replicate n 0) i 0 ≡ 0
get_or_zeros zero i = refl
get_or_zeros (suc n) zero = refl
get_or_zeros (suc n) (suc i) = get_or_zeros n i

-- in a repeat of a row whose masks are 0 every mask is 0
pub repeat_mask : (n : ℕ) (r : Row) → ((v : ℕ) → mask_in r v ≡ 0) → (u v : ℕ) → mask_in (get_or (replicate n r) u no_row) v ≡ 0
repeat_mask zero r e u v = refl
repeat_mask (suc n) r e zero v = e v
repeat_mask (suc n) r e (suc u) v = repeat_mask n r e u v
