-- Lists in another order (02, Ticket 3), and lists with the same entries. Over any type of entry, and for entries that may change
-- as R allows: with "is in another order" for R, a list of lists is in another order at both levels.
use Rattle.std.specs.Prelude.{◌≡◌, List, [], ◌∷◌}
use mathlib.Core.List.{Memᴰ}

module _ {A : Type 0} where
  -- the second list is the first in another order, each entry replaced by one that R allows; the number of each stays.
  -- R is to let an entry stay and to lead on from one to the next, as equality and another order do; the laws ask for both.
  pub data Reordered (R : A → A → Type 0) : List A → List A → Type 0 where
    nothing : Reordered R [] []
    one_more : {x y : A} {l m : List A} → R x y → Reordered R l m → Reordered R (x ∷ l) (y ∷ m)
    exchanged : {x y v w : A} {l : List A} → R x w → R y v → Reordered R (x ∷ y ∷ l) (v ∷ w ∷ l)
    in_turn : {l m k : List A} → Reordered R l m → Reordered R m k → Reordered R l k

  -- each entry of the one list has one in the other that R allows, however often they occur
  pub record Alike (R : A → A → Type 0) (l m : List A) : Type 0 where
    pub there : (x : A) → Memᴰ x l → (y : A) × (Memᴰ y m × R x y)
    pub back : (y : A) → Memᴰ y m → (x : A) × (Memᴰ x l × R x y)

  -- the same entries in another order
  abbrev pub Permuted : List A → List A → Type 0
  Permuted l m = Reordered ◌≡◌ l m

  -- the same set of entries
  abbrev pub SameMembers : List A → List A → Type 0
  SameMembers l m = Alike ◌≡◌ l m

-- "the same terms in another order, or the same words in another order within terms", or both
abbrev pub ReorderedTerms : {A : Type 0} → List (List A) → List (List A) → Type 0
ReorderedTerms l m = Reordered Permuted l m

-- the same set of sets of entries
abbrev pub SameTerms : {A : Type 0} → List (List A) → List (List A) → Type 0
SameTerms l m = Alike SameMembers l m
