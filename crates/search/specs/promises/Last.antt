-- The last steps of a search, and the parties that have one to the target.
use Rattle.std.specs.Prelude.{◌≡◌, ℕ, ◌-◌, ◌<◌, bit_or, bit_xor}
use Rattle.masks.specs.promises.Mask.{test_bit}
use Rattle.masks.specs.promises.Table.{mask_at}
use Rattle.masks.specs.declared.Table.{Table}
use Rattle.rebac.specs.promises.Forms.{Place}
use Rattle.search.specs.promises.Search.{place_on, place_at}
use Rattle.search.specs.declared.word.Word.{Word}

-- what the code computes, `(a | b) ^ b`: the places of a that b lacks
abbrev pub without : ℕ → ℕ → ℕ
without a b = bit_xor (bit_or a b) b

-- the word's last place
abbrev pub last_place : Word → ℕ → Place
last_place w fixed = place_at w fixed (w.len - 1)

-- the mask has exactly those parties below n that have a step to the target at the place
abbrev pub Ends : ℕ → Table → ℕ → Place → ℕ → Type 0
Ends n t target x ends = (v : ℕ) → v < n → test_bit ends v ≡ place_on x (mask_at t v target)
