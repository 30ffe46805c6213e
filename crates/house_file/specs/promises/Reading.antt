-- What the functions that read a file promise each other: marks stand for the records reached, a row for the kinds of a chain.
use Rattle.std.specs.Prelude.{ℕ, ◌-◌, ◌≤◌, ◌≡◌, true, not, List, [], ◌++◌, length, get_or, Result, Ok, Err, eqb}
use Rattle.lists.specs.Lists.{any_of, member}
use Rattle.limits.specs.Limits.{most_parties, most_labels, most_records}
use Rattle.masks.specs.promises.Mask.{test_bit}
use Rattle.masks.specs.promises.Table.{mask_in, mask_at}
use Rattle.house_layout.specs.Layout.{header_of, head_of, labels_of, size_of}
use Rattle.house_layout.specs.Fields.{legal_kind}
use Rattle.house_file.specs.Check.{says, Followed, passed, enough_turns, follow_chain, chains_check, stopped}
use Rattle.house_layout.specs.promises.Kinds.{bit_of}
use Rattle.house_layout.specs.declared.header.Header.{Header}
use Rattle.house_file.specs.Meaning.{recorded}
use Rattle.masks.specs.declared.Row.{Row}
use Rattle.masks.specs.declared.Table.{Table}
use Rattle.house_layout.specs.declared.reply.Refusal.{Refusal}

-- a file whose header and length passed, and its numbers
pub record Framed (f : List ℕ) (h : Header) : Type 0 where
  pub numbers : h ≡ header_of f
  pub parties : h.parties ≤ most_parties
  pub labels : h.labels ≤ most_labels
  pub records : h.records ≤ most_records
  pub size : length f ≡ size_of f

-- record r's mark is at r - 1; it is not 0 exactly where r was reached
abbrev pub RecordMarks : List ℕ → List ℕ → Type 0
RecordMarks marks seen = (r : ℕ) → 1 ≤ r → not (eqb (get_or marks (r - 1) 0) 0) ≡ member r seen

-- the row has the kinds of the records c, target by target
abbrev pub RowOf : List ℕ → Row → List ℕ → Type 0
RowOf f row c = (t k : ℕ) → legal_kind (labels_of f) k ≡ true → test_bit (mask_in row t) (bit_of k) ≡ any_of (says f t k) c

-- party u's chain followed, after the records `before`
abbrev pub chain_followed : List ℕ → ℕ → List ℕ → Followed
chain_followed f u before = follow_chain f u (enough_turns f) before [] (head_of f u)

-- what was read of party u's chain that could be followed: its records are marked, and the row has their kinds
pub record ChainKept (f : List ℕ) (u : ℕ) (before : List ℕ) (row : Row) (marks : List ℕ) : Type 0 where
  pub chain : List ℕ
  pub followed : chain_followed f u before ≡ passed chain
  pub marked : RecordMarks marks (before ++ chain)
  pub kinds : RowOf f row chain

-- what was read of party u's chain, and the marks then
abbrev pub ChainRead : List ℕ → ℕ → List ℕ → Result Row Refusal → List ℕ → Type 0
ChainRead f u before (Ok row) marks = ChainKept f u before row marks
ChainRead f u before (Err x) marks = chain_followed f u before ≡ stopped x

-- what was read of all chains
abbrev pub ChainsRead : List ℕ → Result Table Refusal → Type 0
ChainsRead f (Ok kinds) = (chains_check f ≡ Ok tt)
    × ((u v k : ℕ) → legal_kind (labels_of f) k ≡ true → test_bit (mask_at kinds u v) (bit_of k) ≡ recorded f u v k)
ChainsRead f (Err x) = chains_check f ≡ Err x
