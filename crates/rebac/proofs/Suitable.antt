-- Lists that fit a conversion over scores, and plain words as items: what the theorems of proofs/Existence and Conversion speak of.
use Rattle.std.proofs.Common.{◌≡◌, List, map, ◌≤◌, length}
use mathlib.Core.List.{Memᴰ}
use Rattle.rebac.specs.Words.{Word}
use Rattle.rebac.specs.Rules.{Problem, Item, Term, RuleList, permits}

-- 01: "A term is one or more words"; each item asks for one path or more of a word in use
pub record IsTerm {P W : Type 0} (S : Problem P W) (t : Term W) : Type 0 where
  pub full : 1 ≤ length t
  pub counts : (i : Item W) → Memᴰ i t → 1 ≤ i.count
  pub listed : (i : Item W) → Memᴰ i t → Memᴰ i.word S.words

-- Definition 3.8: the list is a suitable RuleSet, it permits exactly the permitted pairs
pub record Suitable {P W : Type 0} (S : Problem P W) (r : RuleList W) : Type 0 where
  pub terms : (t : Term W) → Memᴰ t r → IsTerm S t
  pub exact : (p : P) → Memᴰ p S.pairs → permits S r p ≡ S.permitted p

-- and words as items that ask for one path each
abbrev pub one : Word → Item Word
one w = record { word = w; count = 1 }

abbrev pub ones : List (List Word) → RuleList Word
ones r = map (λ t. map one t) r
