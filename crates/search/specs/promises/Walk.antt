-- Masks of parties outside of which no path leads on.
use Rattle.std.specs.Prelude.{◌≡◌, ℕ, ◌<◌, true, false, List, Option, MatchOption}
use Rattle.std.proofs.Math.Option.{none}
use Rattle.masks.specs.promises.Mask.{test_bit, with_bit}
use Rattle.masks.specs.promises.Table.{mask_in}
use Rattle.masks.specs.declared.Row.{Row}
use Rattle.masks.specs.declared.Table.{Table}
use Rattle.rebac.specs.promises.Forms.{Place}
use Rattle.search.specs.promises.Search.{place_on, search_from}

-- no candidate of the mask below both n and k may follow at the place, from the party of this row
abbrev pub NoStep : Place → Row → ℕ → ℕ → ℕ → Type 0
NoStep x row mask n k = (c : ℕ) → c < n → c < k → test_bit mask c ≡ true → place_on x (mask_in row c) ≡ false

-- c is the first candidate of the mask below n that may follow at the place
pub record StepsFirst (x : Place) (row : Row) (mask n c : ℕ) : Type 0 where
  pub within : c < n
  pub before : NoStep x row mask n c
  pub on : test_bit mask c ≡ true
  pub step : place_on x (mask_in row c) ≡ true

-- the first candidate of the mask below n that may follow at the place, or none
abbrev pub FirstStep : Place → Row → ℕ → ℕ → Option ℕ → Type 0
FirstStep x row mask n r = MatchOption r (NoStep x row mask n n) (λ c. StepsFirst x row mask n c)

-- the second mask has every party of the first
abbrev pub Within : ℕ → ℕ → Type 0
Within visited more = (c : ℕ) → test_bit visited c ≡ true → test_bit more c ≡ true

-- a party below k that the mask lacks has no path along the places to the target, where the visited parties and maybe more were passed
abbrev pub Covers : ℕ → Table → ℕ → List Place → ℕ → ℕ → ℕ → Type 0
Covers n t target xs visited mask k =
    (v : ℕ) → v < k → test_bit mask v ≡ false → (more : ℕ) → Within visited more → test_bit more v ≡ false
    → search_from n t (with_bit more v) v target xs ≡ none
