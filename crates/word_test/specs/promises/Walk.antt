-- Masks of parties outside of which no way leads back.
use Rattle.std.specs.Prelude.{◌≡◌, ℕ, ◌+◌, ◌-◌, ◌<◌, ◌≤◌, true, false}
use Rattle.masks.specs.promises.Mask.{test_bit, with_bit}
use Rattle.masks.specs.promises.Table.{mask_at}
use Rattle.masks.specs.declared.Table.{Table}
use Rattle.search.specs.promises.Walk.{Within}
use Rattle.search.specs.declared.word.Word.{Word}
use Rattle.word_test.specs.promises.Backward.{symbols_back, way_from, ways_from, depth_from}

-- a party below n that is not visited and to which the symbol leads from one of the mask below k
abbrev pub Onward : ℕ → Table → ℕ → ℕ → ℕ → ℕ → ℕ → Type 0
Onward n t s mask visited k parties =
    (c v : ℕ) → c < k → v < n → test_bit mask c ≡ true → test_bit (mask_at t c v) s ≡ true → test_bit visited v ≡ false
    → test_bit parties v ≡ true

-- a party below n that the mask lacks has no way back along k symbols from place `from` on to a start, where the visited parties and maybe
-- more were passed
abbrev pub Covers : ℕ → Table → Word → ℕ → ℕ → ℕ → ℕ → ℕ → Type 0
Covers n t w starts from k visited mask =
    (v : ℕ) → v < n → test_bit mask v ≡ false → (more : ℕ) → Within visited more → test_bit more v ≡ false
    → way_from n t starts (with_bit more v) v (symbols_back w from k) ≡ false

-- a party that is no candidate of the mask and not visited: no way leads from it to a start, and none leads further than `deep`
pub record Skipped (n : ℕ) (t : Table) (w : Word) (at visited starts deep v : ℕ) : Type 0 where
  pub lost : ways_from n t starts (with_bit visited v) v (symbols_back w 1 (at - 1)) ≡ 0
  pub near : w.len - at + depth_from n t (with_bit visited v) v (symbols_back w 1 (at - 1)) ≤ deep

abbrev pub Look : ℕ → Table → Word → ℕ → ℕ → ℕ → ℕ → ℕ → Type 0
Look n t w at visited starts deep mask =
    (v : ℕ) → v < n → test_bit mask v ≡ false → test_bit visited v ≡ false → Skipped n t w at visited starts deep v
