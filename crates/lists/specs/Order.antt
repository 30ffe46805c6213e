-- Lists in order, lists without repetition, sums and greatest values over a list.
use Rattle.std.specs.Prelude.{◌≡◌, Bool, true, false, ℕ, ◌+◌, max, List, [], ◌∷◌}
use mathlib.Core.List.{Memᴰ}
use Rattle.std.proofs.Math.Option.{Option, none, some}

-- k where the test passes, else 0
abbrev pub only_if : Bool → ℕ → ℕ
only_if true k = k
only_if false k = 0

module _ {A : Type 0} where
  -- each element stands before every later one
  abbrev pub Ascending : (A → A → Bool) → List A → Type 0
  Ascending R [] = Unit {0}
  Ascending R (x ∷ xs) = ((y : A) → Memᴰ y xs → R x y ≡ true) × Ascending R xs

  -- no element occurs twice
  abbrev pub Distinct : List A → Type 0
  Distinct [] = Unit {0}
  Distinct (x ∷ xs) = (Memᴰ x xs → ⊥) × Distinct xs

  abbrev pub first_element : List A → Option A
  first_element [] = none
  first_element (x ∷ xs) = some x

  unfoldable pub sum_of : (A → ℕ) → List A → ℕ
  sum_of f [] = 0
  sum_of f (x ∷ xs) = f x + sum_of f xs

  -- the greatest value, or 0 for the empty list
  unfoldable pub greatest_of : (A → ℕ) → List A → ℕ
  greatest_of f [] = 0
  greatest_of f (x ∷ xs) = max (f x) (greatest_of f xs)
