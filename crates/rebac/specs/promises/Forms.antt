-- Words of a given form, one search for all of them, and next word by such searches.
use Rattle.std.specs.Prelude.{Bool, ◌&&◌, List, [], ◌∷◌, ◌++◌, map, ℕ, zero, suc, ◌-◌, eqb, leb, length}
use Rattle.std.proofs.Math.Option.{Option, none, some}
use Rattle.lists.specs.Lists.{any_of, first_by}
use Rattle.rebac.specs.Matter.{Matter, Pair}
use Rattle.rebac.specs.Words.{Word}
use Rattle.rebac.specs.promises.Options.{or_else}
use Rattle.rebac.specs.Paths.{Graph, has}
use Rattle.rebac.specs.Symbols.{alphabet, enlarged}

-- what a place of a word may hold: one symbol, or any symbol that is at least a floor
pub data Place : Type 0 where
  exactly : ℕ → Place
  from : ℕ → Place

abbrev pub allows : Place → ℕ → Bool
allows (exactly t) s = eqb t s
allows (from f) s = leb f s

-- k places that hold any symbol
unfoldable pub free : ℕ → List Place
free zero = []
free (suc k) = from 0 ∷ free k

-- fixed symbols, then k free ones
unfoldable pub fixed_then_free : Word → ℕ → List Place
fixed_then_free fixed k = map exactly fixed ++ free k

-- fixed symbols, then one that is at least the floor, then k free ones
unfoldable pub form : Word → ℕ → ℕ → List Place
form fixed floor k = map exactly fixed ++ (from floor ∷ free k)

-- the graph in which a place leads from u to v where some symbol does that it allows
unfoldable pub place_graph : List ℕ → Graph ℕ → Graph Place
place_graph al g = record { parties = g.parties; edge = λ u v x. any_of (λ s. allows x s && g.edge u v s) al }

-- the alphabet, the graph and the pair
module _ (al : List ℕ) (g : Graph ℕ) (p : Pair) where
  -- the pair has a word of the form, as one search for a path
  unfoldable pub find_form : List Place → Bool
  find_form xs = has (place_graph al g) p xs

  -- the least symbol from the floor on that may stand after `fixed` and before k free ones
  unfoldable pub least_symbol : Word → ℕ → ℕ → Option ℕ
  least_symbol fixed floor k = first_by (λ s. leb floor s && find_form (fixed_then_free (fixed ++ (s ∷ [])) k)) al

  -- the least word of `form fixed floor k`: its places one by one, each at the least symbol with which the search still succeeds
  unfoldable pub complete : Word → ℕ → ℕ → Option Word
  complete fixed floor zero = elim (least_symbol fixed floor 0) [ none ↦ none | some s ↦ some (fixed ++ (s ∷ [])) ]
  complete fixed floor (suc k) = elim (least_symbol fixed floor (suc k)) [ none ↦ none | some s ↦ complete (fixed ++ (s ∷ [])) 0 k ]

  -- the next word of the same length, from the last place down: the places before are kept, here a greater symbol, after it any
  unfoldable pub next_same_length : Word → Word → Option Word
  next_same_length fixed [] = none
  next_same_length fixed (s ∷ w) = or_else (next_same_length (fixed ++ (s ∷ [])) w) (complete fixed (suc s) (length w))

  -- the first word of k + 1 symbols, or else of k + 2, and so on for j lengths
  unfoldable pub first_longer : ℕ → ℕ → Option Word
  first_longer k zero = none
  first_longer k (suc j) = or_else (complete [] 0 k) (first_longer (suc k) j)

  -- next word up to d symbols: of the word's own length, then of the greater ones
  unfoldable pub search_next : ℕ → Word → Option Word
  search_next d w = or_else (next_same_length [] w) (first_longer (length w) (d - length w))

unfoldable pub next_by_forms : Matter → Pair → Word → Option Word
next_by_forms M p w = search_next (alphabet M.language M.labels) (enlarged M) p M.longest w
