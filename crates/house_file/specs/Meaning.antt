-- What a house file says, by the records of each party's chain; and what it is to be well formed, in plain terms.
use Rattle.std.specs.Prelude.{ℕ, zero, suc, ◌≤◌, ◌<◌, ◌≡◌, Bool, Some, ◌&&◌, ◌||◌, length, eqb, ltb, List, [], ◌∷◌}
use mathlib.Core.List.{Memᴰ}
use Rattle.lists.specs.Lists.{any_of, pick}
use Rattle.lists.specs.Order.{Distinct}
use Rattle.limits.specs.Limits.{most_parties, most_labels, last_language, longest_word, most_records}
use Rattle.fields.specs.Numbers.{byte_at}
use Rattle.house_layout.specs.Layout.{last_edition, edition_of, parties_of, labels_of, language_of, longest_of, records_of}
use Rattle.house_layout.specs.Layout.{header_size, size_of, head_of, record_of, unknown_kind, permit_kind, LegalKind}
use Rattle.house_file.specs.Check.{says}

-- the records from r on, as far as each number names one
unfoldable pub chain_from : List ℕ → ℕ → ℕ → List ℕ
chain_from f zero r = []
chain_from f (suc k) r = pick (eqb r 0 || ltb (records_of f) r) [] (r ∷ chain_from f k (record_of f r).next)

-- party u's chain; in a well-formed file, the list of records linked from u's head (`linked_chain`)
unfoldable pub chain_of : List ℕ → ℕ → List ℕ
chain_of f u = chain_from f (records_of f) (head_of f u)

-- a record of party u's chain has target v and kind k
unfoldable pub recorded : List ℕ → ℕ → ℕ → ℕ → Bool
recorded f u v k = ltb u (parties_of f) && any_of (says f v k) (chain_of f u)

-- (u, v, label) is an edge
unfoldable pub is_edge : List ℕ → ℕ → ℕ → ℕ → Bool
is_edge f u v l = ltb l (labels_of f) && recorded f u v l

-- nobody knows whether (u, v, label) is an edge (02, Ticket 5)
unfoldable pub is_unknown : List ℕ → ℕ → ℕ → ℕ → Bool
is_unknown f u v l = ltb l (labels_of f) && recorded f u v (unknown_kind l)

-- (u, v) is permitted
unfoldable pub is_permitted : List ℕ → ℕ → ℕ → Bool
is_permitted f u v = recorded f u v permit_kind

-- r and what follows it are these records; each number names a record, and 0 ends the chain
abbrev pub IsChain : List ℕ → ℕ → List ℕ → Type 0
IsChain f r [] = r ≡ 0
IsChain f r (s ∷ c) = (r ≡ s) × ((1 ≤ r) × ((r ≤ records_of f) × IsChain f (record_of f r).next c))

-- edition 1 (01) and edition 2 (02, Ticket 2)
abbrev pub IsEdition : ℕ → Type 0
IsEdition e = (1 ≤ e) × (e ≤ last_edition)

pub record FieldsRight (f : List ℕ) : Type 0 where
  pub edition : IsEdition (edition_of f)
  pub parties : (1 ≤ parties_of f) × (parties_of f ≤ most_parties)
  pub labels : (1 ≤ labels_of f) × (labels_of f ≤ most_labels)
  pub language : language_of f ≤ last_language
  pub longest : (1 ≤ longest_of f) × (longest_of f ≤ longest_word)
  pub zero_byte : byte_at f 5 ≡ 0
  pub records : records_of f ≤ most_records

-- `chain u` are the records of party u's chain, and they are right
pub record RecordsRight (f : List ℕ) (chain : ℕ → List ℕ) : Type 0 where
  -- linked from the party's head: heads and nexts name records, and every chain ends
  pub linked : (u : ℕ) → u < parties_of f → IsChain f (head_of f u) (chain u)
  -- every record stands in exactly one chain, once
  pub reached : (r : ℕ) → 1 ≤ r → r ≤ records_of f → (u : ℕ) × ((u < parties_of f) × Memᴰ r (chain u))
  pub once : (u : ℕ) → u < parties_of f → Distinct (chain u)
  pub apart : (u v r : ℕ) → u < v → v < parties_of f → Memᴰ r (chain u) → Memᴰ r (chain v) → ⊥
  -- an owner byte, where the edition has one, names the chain's party (02, Ticket 2)
  pub owner : (u r : ℕ) → u < parties_of f → Memᴰ r (chain u) → (p : ℕ) → (record_of f r).owner ≡ Some p → p ≡ u
  -- targets and kinds
  pub target : (u r : ℕ) → u < parties_of f → Memᴰ r (chain u)
      → ((record_of f r).target < parties_of f) × ((record_of f r).target ≡ u → ⊥)
  pub kind : (u r : ℕ) → u < parties_of f → Memᴰ r (chain u)
      → LegalKind (labels_of f) (record_of f r).kind
  -- no two records of a chain have both target and kind equal
  pub different : (u r s : ℕ) → u < parties_of f → Memᴰ r (chain u) → Memᴰ s (chain u)
      → (record_of f r).target ≡ (record_of f s).target → (record_of f r).kind ≡ (record_of f s).kind → r ≡ s
  -- nor target and label equal, one known and one unknown (02, Ticket 5)
  pub consistent : (u r s l : ℕ) → u < parties_of f → Memᴰ r (chain u) → Memᴰ s (chain u)
      → (record_of f r).target ≡ (record_of f s).target → l < labels_of f
      → (record_of f r).kind ≡ l → (record_of f s).kind ≡ unknown_kind l → ⊥

pub record WellFormed (f : List ℕ) : Type 0 where
  pub long : header_size ≤ length f
  pub fields : FieldsRight f
  pub size : length f ≡ size_of f
  pub chain : ℕ → List ℕ
  pub records : RecordsRight f chain
