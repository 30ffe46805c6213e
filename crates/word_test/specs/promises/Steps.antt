-- Masks of the parties that one symbol leads to.
use Rattle.std.specs.Prelude.{◌≡◌, ℕ, ◌<◌, ◌&&◌, ◌||◌, length, ◌==◌, nat_lt}
use Rattle.limits.specs.Limits.{most_parties}
use Rattle.masks.specs.promises.Mask.{test_bit}
use Rattle.masks.specs.promises.Table.{mask_in, mask_at}
use Rattle.masks.specs.declared.Row.{Row}
use Rattle.masks.specs.declared.Table.{Table}

-- exactly the parties below n to which the symbol leads from the party of this row
abbrev pub StepsFrom : ℕ → Row → ℕ → ℕ → Type 0
StepsFrom n row s mask = (c : ℕ) → test_bit mask c ≡ (nat_lt c n && test_bit (mask_in row c) s)

-- exactly the parties of the mask below n from which the symbol leads to party u
abbrev pub StepsTo : ℕ → Table → ℕ → ℕ → ℕ → ℕ → Type 0
StepsTo n t s u among mask = (c : ℕ) → test_bit mask c ≡ (nat_lt c n && (test_bit among c && test_bit (mask_at t c u) s))

-- the row with c in the mask of each party below n to which the symbol leads by the row `from`
pub record Joined (n : ℕ) (row from : Row) (s c : ℕ) (r : Row) : Type 0 where
  pub full : length r.masks ≡ most_parties
  pub masks : (v d : ℕ) → v < n → test_bit (mask_in r v) d ≡ ((d == c && test_bit (mask_in from v) s) || test_bit (mask_in row v) d)
