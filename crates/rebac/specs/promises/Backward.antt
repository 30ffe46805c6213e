-- The search for a word from its last symbol back to its first, with the seen parties kept as marks of any kind.
use Rattle.std.specs.Prelude.{Bool, not, ◌&&◌, List, [], ◌∷◌, ℕ, suc}
use Rattle.lists.specs.Lists.{any_of, range}
use Rattle.lists.specs.Order.{only_if, sum_of, greatest_of}
use Rattle.rebac.specs.Paths.{Graph}

-- seen c v: party c is marked in v; mark c v: v with c marked too
module _ {S K : Type 0} (g : Graph S) (seen : ℕ → K → Bool) (mark : ℕ → K → K) where
  -- whether c may stand before b along s
  abbrev pub may_precede : K → ℕ → S → ℕ → Bool
  may_precede v b s c = not (seen c v) && g.edge c b s

  -- how many ways lead back from b along the symbols, the word's last one first, to a party that is a start
  unfoldable pub count_back : (ℕ → Bool) → K → ℕ → List S → ℕ
  count_back start v b [] = only_if (start b) 1
  count_back start v b (s ∷ r) = sum_of (λ c. only_if (may_precede v b s c) (count_back start (mark c v) c r)) (range g.parties)

  -- whether there is such a way
  unfoldable pub way_back : (ℕ → Bool) → K → ℕ → List S → Bool
  way_back start v b [] = start b
  way_back start v b (s ∷ r) = any_of (λ c. may_precede v b s c && way_back start (mark c v) c r) (range g.parties)

  -- along how many of the symbols some way leads back from b
  unfoldable pub depth_back : K → ℕ → List S → ℕ
  depth_back v b [] = 0
  depth_back v b (s ∷ r) = greatest_of (λ c. only_if (may_precede v b s c) (suc (depth_back (mark c v) c r))) (range g.parties)
