-- 000's own wording: paths as linked sequences of triples, and the variations of paths that the languages use.
-- Theorems tie it to 01's paths and to the enlarged graph (proofs/Triples, SymbolsLaws, MatterLaws).
use Rattle.std.specs.Prelude.{◌≡◌, ◌⊎◌, true, false, ℕ, ◌+◌, ◌*◌, ◌≤◌, ◌<◌, List, [], ◌∷◌, map}
use mathlib.Core.List.{Memᴰ}
use Rattle.rebac.specs.Matter.{Matter, Pair}
use Rattle.rebac.specs.Paths.{Graph}

-- a triple (start, finish, symbol) of Definition 3.4
pub record Triple (S : Type 0) : Type 0 where
  pub start : ℕ
  pub finish : ℕ
  pub symbol : S

module _ {S : Type 0} where
  -- Definition 3.4: the second vertex of each triple is the first vertex of the next, from u to v
  abbrev pub Linked : ℕ → List (Triple S) → ℕ → Type 0
  Linked u [] v = u ≡ v
  Linked u (t ∷ ts) v = (t.start ≡ u) × Linked t.finish ts v

  -- Definition 3.4: once a vertex occurs as a start vertex it is not the terminating vertex of a subsequent triple
  abbrev pub NoReturn : List (Triple S) → Type 0
  NoReturn [] = Unit {0}
  NoReturn (t ∷ ts) = ((x : Triple S) → Memᴰ x ts → x.finish ≡ t.start → ⊥) × NoReturn ts

  -- Definition 3.5: a linked sequence of which each triple is an edge, for a vertex pair (u, v) "where u ≠ v" (3.4)
  pub record TriplePath (g : Graph S) (p : Pair) (ts : List (Triple S)) : Type 0 where
    pub different : p.first ≡ p.second → ⊥
    pub linked : Linked p.first ts p.second
    pub simple : NoReturn ts
    pub edges : (t : Triple S) → Memᴰ t ts → g.edge t.start t.finish t.symbol ≡ true
    pub inside : (t : Triple S) → Memᴰ t ts → t.finish < g.parties

  -- Definition 3.5: the path label, in 01 the word
  abbrev pub path_label : List (Triple S) → List S
  path_label ts = map (λ t. t.symbol) ts

-- Definition 4.1, Table 1: its four rows for a triple (u, v, s) of a label below L; 01: "A symbol is 4 × label + kind."
-- The languages 0, 1, 2 and 3 or more have the simple path, SCP, SPP and SCPP. "No edge" leaves out the unknown ones (02, Ticket 5).
pub data TableRow (M : Matter) (u v s : ℕ) : Type 0 where
  -- an edge, in all of them
  plain : (label : ℕ) → label < M.labels → s ≡ 4 * label + 0 → M.edge u v label ≡ true → TableRow M u v s
  -- no edge: SCP and SCPP
  absent : (label : ℕ) → label < M.labels → s ≡ 4 * label + 1 → M.edge u v label ≡ false → M.unknown u v label ≡ false
      → (M.language ≡ 1) ⊎ (3 ≤ M.language) → TableRow M u v s
  -- the inverse of an edge: SPP and SCPP
  inverse : (label : ℕ) → label < M.labels → s ≡ 4 * label + 2 → M.edge v u label ≡ true
      → (M.language ≡ 2) ⊎ (3 ≤ M.language) → TableRow M u v s
  -- the inverse of no edge: SCPP
  absent_inverse : (label : ℕ) → label < M.labels → s ≡ 4 * label + 3 → M.edge v u label ≡ false → M.unknown v u label ≡ false
      → 3 ≤ M.language → TableRow M u v s

-- the triple is between two different parties and in a row of the table
pub record Held (M : Matter) (u v s : ℕ) : Type 0 where
  pub first : u < M.parties
  pub second : v < M.parties
  pub different : u ≡ v → ⊥
  pub row : TableRow M u v s

-- Definition 4.1: in languages 0 to 3 the simple path, SCP, SPP and SCPP of the relationship graph
pub record VariationPath (M : Matter) (p : Pair) (ts : List (Triple ℕ)) : Type 0 where
  pub different : p.first ≡ p.second → ⊥
  pub linked : Linked p.first ts p.second
  pub simple : NoReturn ts
  pub admitted : (t : Triple ℕ) → Memᴰ t ts → Held M t.start t.finish t.symbol
