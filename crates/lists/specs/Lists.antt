-- Tests and choices over lists that compute.
use Rattle.std.specs.Prelude.{Bool, true, false, ◌&&◌, ◌||◌, List, [], ◌∷◌, ◌++◌, ℕ, zero, suc, eqb}
use Rattle.std.proofs.Math.Option.{Option, none, some}

-- one of two, by a test
abbrev pub pick {ℓ} : {A : Type ℓ} → Bool → A → A → A
pick true a b = a
pick false a b = b

module _ {A : Type 0} where
  -- every element passes
  unfoldable pub all_of : (A → Bool) → List A → Bool
  all_of p [] = true
  all_of p (x ∷ xs) = p x && all_of p xs

  -- some element passes
  unfoldable pub any_of : (A → Bool) → List A → Bool
  any_of p [] = false
  any_of p (x ∷ xs) = p x || any_of p xs

  -- the elements that pass, in order
  unfoldable pub filter_by : (A → Bool) → List A → List A
  filter_by p [] = []
  filter_by p (x ∷ xs) = elim (p x) [ true ↦ x ∷ filter_by p xs | false ↦ filter_by p xs ]

  -- the first element that passes
  unfoldable pub first_by : (A → Bool) → List A → Option A
  first_by p [] = none
  first_by p (x ∷ xs) = elim (p x) [ true ↦ some x | false ↦ first_by p xs ]

module _ {A B : Type 0} where
  -- the lists f x, for each x in order, one after another
  unfoldable pub flat_map : (A → List B) → List A → List B
  flat_map f [] = []
  flat_map f (x ∷ xs) = f x ++ flat_map f xs

-- x stands in the list
abbrev pub member : ℕ → List ℕ → Bool
member x l = any_of (eqb x) l

-- a, a + 1, .., k numbers in all
unfoldable pub up_from : ℕ → ℕ → List ℕ
up_from a zero = []
up_from a (suc k) = a ∷ up_from (suc a) k

-- 0 to n - 1
unfoldable pub range : ℕ → List ℕ
range n = up_from 0 n
