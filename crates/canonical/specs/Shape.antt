-- What the writer is held to, in plain terms: matters in 01's limits, the order of a file's records, and files that say the same.
use Rattle.std.specs.Prelude.{ℕ, suc, ◌<◌, ◌≡◌, Bool, true, false, ◌&&◌, ◌||◌, List, map, length, eqb, ltb, Ok}
use Rattle.lists.specs.Lists.{flat_map, range, up_from}
use Rattle.lists.specs.Order.{Ascending}
use Rattle.rebac.specs.Matter.{Matter, pair, IsPair}
use Rattle.house_layout.specs.Layout.{edition_of, parties_of, labels_of, language_of, longest_of, records_of, record_of, file_size}
use Rattle.house_file.specs.Meaning.{chain_of, is_edge, is_unknown, is_permitted}
use Rattle.house_file.specs.Check.{check_of}
use Rattle.graph.specs.FileMatter.{Limits, matter_of}
use Rattle.canonical.specs.Canonical.{Entry, entry, written_edition}

-- a matter that a file can have: 01's limits; relations, unknown ones and permits only between two different parties, of labels below L;
-- and no unknown relation is an edge (02, Ticket 5)
pub record InLimits (M : Matter) : Type 0 where
  pub limits : Limits M
  pub edges : (u v l : ℕ) → M.edge u v l ≡ true → IsPair M.parties (pair u v) × (l < M.labels)
  pub unknowns : (u v l : ℕ) → M.unknown u v l ≡ true → IsPair M.parties (pair u v) × (l < M.labels)
  pub permits : (u v : ℕ) → M.permit u v ≡ true → IsPair M.parties (pair u v)
  pub consistent : (u v l : ℕ) → M.unknown u v l ≡ true → M.edge u v l ≡ false

-- by target and then by kind byte
abbrev pub entry_before : Entry → Entry → Bool
entry_before e f = ltb e.target f.target || (eqb e.target f.target && ltb e.kind f.kind)

-- what record r of party u's chain says
abbrev pub entry_in : List ℕ → ℕ → ℕ → Entry
entry_in f u r = entry u (record_of f r).target (record_of f r).kind

-- "records numbered along the chains, party 0 first, each chain by target and then by kind byte"
pub record InShape (f : List ℕ) : Type 0 where
  -- a chain's numbers are consecutive and begin after those of the lower parties' chains
  pub numbered : (u : ℕ) → u < parties_of f
      → chain_of f u ≡ up_from (suc (length (flat_map (chain_of f) (range u)))) (length (chain_of f u))
  pub ascending : (u : ℕ) → u < parties_of f → Ascending entry_before (map (entry_in f u) (chain_of f u))

-- "equal header fields, relations and permits"; the "comparison leaves the edition byte out" (02, Ticket 2) and
-- "now counts unknown relations too" (Ticket 5)
pub record SameMatter (f g : List ℕ) : Type 0 where
  pub parties : parties_of f ≡ parties_of g
  pub labels : labels_of f ≡ labels_of g
  pub language : language_of f ≡ language_of g
  pub longest : longest_of f ≡ longest_of g
  pub records : records_of f ≡ records_of g
  pub edges : (u v l : ℕ) → is_edge f u v l ≡ is_edge g u v l
  pub unknowns : (u v l : ℕ) → is_unknown f u v l ≡ is_unknown g u v l
  pub permits : (u v : ℕ) → is_permitted f u v ≡ is_permitted g u v

-- c is accepted, of this edition, has this matter and is in shape
pub record FileFor (edition : ℕ) (M : Matter) (c : List ℕ) : Type 0 where
  pub accepted : check_of c ≡ Ok tt
  pub header : edition_of c ≡ edition
  pub matter : matter_of c ≡ M
  pub shape : InShape c

-- c is such a file for f's matter, in the edition that is written; its length follows from f's numbers
pub record CopyOf (f c : List ℕ) : Type 0 where
  pub file : FileFor written_edition (matter_of f) c
  pub size : length c ≡ file_size written_edition (parties_of f) (records_of f)
