-- The verdict: convertible (000: feasible), or the first permitted pair that spoils it.
use Rattle.std.specs.Prelude.{Bool, true, false, not, ◌&&◌, List, [], ◌∷◌, leb}
use Rattle.std.proofs.Math.Option.{Option, none, some}
use Rattle.lists.specs.Lists.{all_of, filter_by, first_by}
use Rattle.rebac.specs.Rules.{Problem}

pub data Verdict (P : Type 0) : Type 0 where
  convertible : Verdict P
  no_word : P → Verdict P
  rivalled : P → P → Verdict P

module _ {P W : Type 0} (S : Problem P W) where
  -- the words of a pair, in word order
  unfoldable pub words_of : P → List W
  words_of p = filter_by (λ w. leb 1 (S.score p w)) S.words

  -- q has all words of p: it scores at least as high at each.
  -- In languages 0 to 3, where words are not counted: all_of (has q) (words_of p) (proofs/PlainLaws, `covers_plain`)
  unfoldable pub covers : P → P → Bool
  covers p q = all_of (λ w. leb (S.score p w) (S.score q w)) (words_of p)

  -- 01: "A rival of a pair with words is an unpermitted pair that has all of them."
  unfoldable pub rival : P → P → Bool
  rival p q = not (S.permitted q) && covers p q

  -- p's part of the verdict, from its words and its first rival
  abbrev pub ruling : P → List W → Option P → Verdict P
  ruling p [] r = no_word p
  ruling p (w ∷ ws) none = convertible
  ruling p (w ∷ ws) (some q) = rivalled p q

  unfoldable pub judge : P → Verdict P
  judge p = ruling p (words_of p) (first_by (rival p) S.pairs)

  abbrev pub is_convertible : Verdict P → Bool
  is_convertible convertible = true
  is_convertible (no_word p) = false
  is_convertible (rivalled p q) = false

  -- a permitted pair that has no word or has a rival
  unfoldable pub spoils : P → Bool
  spoils p = S.permitted p && not (is_convertible (judge p))

  abbrev pub judge_first : Option P → Verdict P
  judge_first none = convertible
  judge_first (some p) = judge p

  -- 01: "the first permitted pair, in pair order, that has no word or has a rival"
  unfoldable pub verdict : Verdict P
  verdict = judge_first (first_by spoils S.pairs)
