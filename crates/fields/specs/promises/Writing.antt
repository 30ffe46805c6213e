-- Bytes written at a place of a lent slice.
use Rattle.std.specs.Prelude.{ℕ, ◌+◌, ◌≡◌, List, ◌++◌, length, take, drop}

-- b with x written from place `at` on, and every other byte kept
unfoldable pub put : List ℕ → ℕ → List ℕ → List ℕ
put b at x = take at b ++ (x ++ drop (at + length x) b)

-- x written from place `at` on, to place `end`, and every other byte kept
pub record Wrote (old : List ℕ) (at : ℕ) (x new : List ℕ) (end : ℕ) : Type 0 where
  pub bytes : new ≡ put old at x
  pub place : end ≡ at + length x
