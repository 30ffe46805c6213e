-- The mined list, built as 01's call "Mining" says.
use Rattle.std.specs.Prelude.{Bool, true, false, not, ◌&&◌, List, [], ◌∷◌, ◌++◌, ltb}
use Rattle.std.proofs.Math.Option.{Option, none, some}
use Rattle.lists.specs.Lists.{first_by}
use Rattle.rebac.specs.Rules.{Problem, Item, Term, RuleList, meets, permits}
use Rattle.rebac.specs.Verdict.{words_of}

module _ {P W : Type 0} (S : Problem P W) where
  -- a word with the pair's own score
  abbrev pub item_of : P → W → Item W
  item_of p w = record { word = w; count = S.score p w }

  -- q lacks the word of p: it scores lower. In languages 0 to 3, for a word that p has: not (has q w) (`lacks_plain`)
  unfoldable pub lacks : P → P → W → Bool
  lacks p q w = ltb (S.score q w) (S.score p w)

  abbrev pub add_word : P → Term W → Option W → Term W
  add_word p t none = t
  add_word p t (some w) = t ++ (item_of p w ∷ [])

  -- 01: "each unpermitted pair in order: if it meets the term so far, the pair's first word that it lacks is added at the end"
  unfoldable pub add_against : P → Term W → P → Term W
  add_against p t q = elim (not (S.permitted q) && meets S q t) [ true ↦ add_word p t (first_by (lacks p q) (words_of S p)) | false ↦ t ]

  unfoldable pub add_all : P → Term W → List P → Term W
  add_all p t [] = t
  add_all p t (q ∷ qs) = add_all p (add_against p t q) qs

  -- 01: "A term begins with the pair's first word."
  abbrev pub begin : P → List W → Term W
  begin p [] = []
  begin p (w ∷ ws) = item_of p w ∷ []

  unfoldable pub term_of : P → Term W
  term_of p = add_all p (begin p (words_of S p)) S.pairs

  -- 01: "takes the permitted pairs in order and leaves out one that an earlier term permits"
  unfoldable pub mine_from : RuleList W → List P → RuleList W
  mine_from r [] = r
  mine_from r (p ∷ ps) =
      elim (S.permitted p && not (permits S r p)) [ true ↦ mine_from (r ++ (term_of p ∷ [])) ps | false ↦ mine_from r ps ]

  unfoldable pub mine : RuleList W
  mine = mine_from [] S.pairs
