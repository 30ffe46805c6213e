-- Rule lists and what they permit, over any pairs, words and scores.
use Rattle.std.specs.Prelude.{Bool, List, ℕ, leb}
use Rattle.lists.specs.Lists.{all_of, any_of}

-- What a conversion is given: the pairs in order, the permitted ones, the words in order,
-- and the score of a pair at a word (the number of its paths with the word, cut at a cap).
pub record Problem (P W : Type 0) : Type 0 where
  pub pairs : List P
  pub permitted : P → Bool
  pub words : List W
  pub score : P → W → ℕ

-- Definition 3.6: a pathLabelExpr. It is a word and the number m of paths that it asks for; where words are not counted m is 1.
pub record Item (W : Type 0) : Type 0 where
  pub word : W
  pub count : ℕ

-- Definition 3.6: a pathRuleExpr (conjunctive term), in 01 a term
abbrev pub Term : Type 0 → Type 0
Term W = List (Item W)

-- Definition 3.6: Rule_op, the disjunction of its terms, in 01 a rule list
abbrev pub RuleList : Type 0 → Type 0
RuleList W = List (Term W)

module _ {P W : Type 0} (S : Problem P W) where
  -- Definition 3.7, (i): True is put for an item where there are paths enough
  unfoldable pub meets_item : P → Item W → Bool
  meets_item p i = leb i.count (S.score p i.word)

  -- Definition 3.7, (ii); 01: "a pair meets it when it has all of them"
  unfoldable pub meets : P → Term W → Bool
  meets p t = all_of (meets_item p) t

  -- Definition 3.7, (ii); 01: "permits a pair that meets one or more. The empty list permits nothing."
  unfoldable pub permits : RuleList W → P → Bool
  permits r p = any_of (meets p) r
