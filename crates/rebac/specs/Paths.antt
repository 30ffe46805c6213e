-- Paths in a labelled graph, over any type of labels: 01's definition, and the list of all paths with a word.
use Rattle.std.specs.Prelude.{◌≡◌, Bool, true, false, not, ◌&&◌, List, [], ◌∷◌, map, ℕ, ◌≤◌, ◌<◌, min, eqb, leb, length}
use Rattle.std.proofs.Math.Option.{Option}
use Rattle.lists.specs.Lists.{filter_by, flat_map, member, range}
use Rattle.lists.specs.Order.{Distinct, first_element}
use Rattle.rebac.specs.Matter.{Pair}

-- Definition 3.3: a directed labelled graph on the parties 0 to n - 1
pub record Graph (S : Type 0) : Type 0 where
  pub parties : ℕ
  pub edge : ℕ → ℕ → S → Bool

module _ {S : Type 0} where
  -- 01: a walk from a along the word through the parties of the list, the last of which is b
  abbrev pub Walk : Graph S → ℕ → List ℕ → List S → ℕ → Type 0
  Walk g a [] [] b = a ≡ b
  Walk g a [] (s ∷ w) b = ⊥
  Walk g a (c ∷ l) [] b = ⊥
  Walk g a (c ∷ l) (s ∷ w) b = (c < g.parties) × (g.edge a c s ≡ true) × Walk g c l w b

  -- 01: "A path is a walk in the enlarged graph along one or more symbols in which no party occurs twice, its two ends included."
  -- `via` are the parties after the first.
  pub record Path (g : Graph S) (p : Pair) (w : List S) (via : List ℕ) : Type 0 where
    pub some : 1 ≤ length w
    pub walk : Walk g p.first via w p.second
    pub simple : Distinct (p.first ∷ via)

  -- 01: "A pair has a word when some path from its first to its second party has that word"
  abbrev pub HasPath : Graph S → Pair → List S → Type 0
  HasPath g p w = (via : List ℕ) × Path g p w via

module _ {S : Type 0} (g : Graph S) where
  -- the parties that may follow a
  unfoldable pub candidates : List ℕ → ℕ → S → List ℕ
  candidates seen a s = filter_by (λ c. not (member c seen) && g.edge a c s) (range g.parties)

  -- every way onward from a along the word to b, past no party of `seen`; the lower party first at the first difference
  unfoldable pub routes : List ℕ → ℕ → ℕ → List S → List (List ℕ)
  routes seen a b [] = elim (eqb a b) [ true ↦ [] ∷ [] | false ↦ [] ]
  routes seen a b (s ∷ w) = flat_map (λ c. map (λ l. c ∷ l) (routes (c ∷ seen) c b w)) (candidates seen a s)

  -- every path of the pair with the word, each as the list of all its parties
  unfoldable pub paths_of : Pair → List S → List (List ℕ)
  paths_of p w = map (λ l. p.first ∷ l) (routes (p.first ∷ []) p.first p.second w)

  -- 01, Path: "of several paths, the one with the lower party at the first difference"
  unfoldable pub least_path : Pair → List S → Option (List ℕ)
  least_path p w = first_element (paths_of p w)

  -- the pair has the word: some path with it is listed
  unfoldable pub has : Pair → List S → Bool
  has p w = leb 1 (length (paths_of p w))

  -- the number of paths with the word, or the cap if there are more
  unfoldable pub path_count : ℕ → Pair → List S → ℕ
  path_count cap p w = min cap (length (paths_of p w))
