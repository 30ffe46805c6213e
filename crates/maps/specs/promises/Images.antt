-- The images of parties, as a list.
use Rattle.std.specs.Prelude.{ℕ, ◌<◌, ◌≡◌, List, get_or}

-- the parties below n have images below n, no two the same
pub record OneToOne (n : ℕ) (image : List ℕ) : Type 0 where
  pub inside : (u : ℕ) → u < n → get_or image u 0 < n
  pub one : (u v : ℕ) → u < n → v < n → get_or image u 0 ≡ get_or image v 0 → u ≡ v
