-- What the functions that read list bytes promise each other.
use Rattle.std.specs.Prelude.{ℕ, zero, suc, ◌+◌, ◌≤◌, ◌<◌, ◌≡◌, length, take, drop, get_or, Option, Some, None, MatchOption}
use mathlib.Core.List.{List, ◌++◌, Memᴰ}
use Rattle.std.proofs.Math.Option.{Option as Decoded, none}
use Rattle.lists.specs.Lists.{flat_map}
use Rattle.limits.specs.Limits.{word_capacity, symbol_count}
use Rattle.search.specs.promises.WordValues.{word_of}
use Rattle.rule_bytes.specs.ListBytes.{encode_term, encode_list, Parsed, parsed}
use Rattle.rule_bytes.specs.declared.read.WordRead.{WordRead}

-- what stands at a place is passed: to the place after it, or none, as it breaks the layout
abbrev pub Passes : {A : Type 0} → (List ℕ → Decoded (Parsed A)) → List ℕ → ℕ → Option ℕ → Type 0
Passes {A} f b at (Some next) = (next ≤ length b) × ((v : A) × (f (drop at b) ≡ parsed v (drop next b)))
Passes {A} f b at None = f (drop at b) ≡ none

-- so many checks, each from the place where the one before ended, until one gives none
abbrev pub PassesMany : (ℕ → Option ℕ → Type 0) → ℕ → ℕ → Option ℕ → Type 0
PassesMany R zero at r = r ≡ Some at
PassesMany R (suc n) at r = (o : Option ℕ) × R at o × MatchOption o (r ≡ None) (λ next. PassesMany R n next r)

-- entries ahead of a place, and what follows them
pub record Ahead {A : Type 0} (e : A → List ℕ) (P : A → Type 0) (b : List ℕ) (place left : ℕ) (xs : List A) (s : List ℕ) : Type 0 where
  pub bytes : drop place b ≡ flat_map e xs ++ s
  pub number : length xs ≡ left
  pub fits : (x : A) → Memᴰ x xs → P x

-- there is a length byte, and its symbols
pub record WordFits (b : List ℕ) (at : ℕ) : Type 0 where
  pub place : at < length b
  pub small : get_or b at 0 ≤ word_capacity
  pub end : at + 1 + get_or b at 0 ≤ length b

-- the word at a place, and the place after it
abbrev pub word_at : List ℕ → ℕ → WordRead
word_at b at = record { word = word_of (take (get_or b at 0) (drop (at + 1) b)); next = at + 1 + get_or b at 0 }

-- sizes that word values and counts can hold
pub record FitWord (w : List ℕ) : Type 0 where
  pub len : length w ≤ word_capacity
  pub symbols : (i : ℕ) → get_or w i 0 < symbol_count

pub record FitTerm (t : List (List ℕ)) : Type 0 where
  pub number : length t < 65536
  pub words : (w : List ℕ) → Memᴰ w t → FitWord w

pub record FitList (l : List (List (List ℕ))) : Type 0 where
  pub number : length l < 65536
  pub terms : (t : List (List ℕ)) → Memᴰ t l → FitTerm t

-- the term t stands at the place, and s follows it
pub record TermAt (b : List ℕ) (at : ℕ) (t : List (List ℕ)) (s : List ℕ) : Type 0 where
  pub bytes : drop at b ≡ encode_term t ++ s
  pub fits : FitTerm t

abbrev pub SomeTerm : List ℕ → ℕ → Type 0
SomeTerm b at = (t : List (List ℕ)) × ((s : List ℕ) × TermAt b at t s)

-- the bytes are those of the list l
pub record IsList (b : List ℕ) (l : List (List (List ℕ))) : Type 0 where
  pub bytes : b ≡ encode_list l
  pub fits : FitList l

abbrev pub SomeList : List ℕ → Type 0
SomeList b = (l : List (List (List ℕ))) × IsList b l
