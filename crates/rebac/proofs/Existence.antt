-- Theorem 3.10 both ways. From a list: the term that permits p is made of p's words, so a
-- rival would be permitted too. From the verdict: the mined list.
use Rattle.std.proofs.Common.{◌≡◌, refl, sym, ◌∙◌, ◌↔◌, true, false, List, [], ◌∷◌, ◌≤◌, arith, length, leb-true, le-leb}
use mathlib.Core.List.{Memᴰ}
use Rattle.lists.specs.Lists.{any_of}
use Rattle.lists.proofs.Cases.{by_test, both}
use Rattle.lists.proofs.ListLaws.{all_in, all_of_lem, any_in, any_out}
use Rattle.rebac.specs.Rules.{Problem, Item, Term, RuleList, meets_item, meets, permits}
use Rattle.rebac.specs.Verdict.{convertible, words_of, covers, rival, judge, verdict}
use Rattle.rebac.specs.Mining.{term_of, mine}
use Rattle.rebac.proofs.Suitable.{IsTerm, Suitable}
use Rattle.rebac.proofs.MiningLaws.{words_in, words_out, term_shuts, term_owned, term_full}
use Rattle.rebac.proofs.MiningLaws.{mine_all, permits_last, mined_has, mined_all}
use Rattle.rebac.proofs.VerdictLaws.{judge_in, judge_word, judge_not_covered, verdict_in_lem, verdict_out}

pub first_item : {A : Type 0} (t : List A) → 1 ≤ length t → (i : A) × Memᴰ i t
first_item [] h = absurd (omega arith)
first_item (i ∷ t) h = (i, Memᴰ.head refl)

module _ {P W : Type 0} (S : Problem P W) where
  -- where p meets a term, each of its words is a word of p
  item_word : (p : P) (t : Term W) → IsTerm S t → meets S p t ≡ true → (i : Item W) → Memᴰ i t
      → Memᴰ i.word (words_of S p) × (i.count ≤ S.score p i.word)
  unfolding meets meets_item
  item_word p t g h i m =
      let a : i.count ≤ S.score p i.word = leb-true _ _ (all_in _ t h m) in
      let b : 1 ≤ i.count = g.counts i m in
      (words_in S p (g.listed i m) (omega arith), a)

  -- a pair that covers p meets every term that p meets
  pub covers_meets : (p q : P) (t : Term W) → IsTerm S t → covers S p q ≡ true → meets S p t ≡ true → meets S q t ≡ true
  unfolding meets meets_item covers
  covers_meets p q t g c h =
      all_of_lem _ t (λ i m.
      let r = item_word p t g h i m in
      let d : S.score p i.word ≤ S.score q i.word = leb-true _ _ (all_in _ (words_of S p) c r.0) in
      le-leb i.count (S.score q i.word) (omega (arith, r.1, d)))

  -- a pair that meets a term which shuts out every pair that is not permitted has a word and no rival
  meets_judge : (p : P) (t : Term W) → IsTerm S t → meets S p t ≡ true
      → ((q : P) → Memᴰ q S.pairs → S.permitted q ≡ false → meets S q t ≡ false) → judge S p ≡ convertible
  unfolding rival
  meets_judge p t g h shut =
      let i = first_item t g.full in
      judge_in S p (item_word p t g h i.0 i.1).0
      (λ q m. by_test (S.permitted q)
      (λ e. rw e)
      (λ e. by_test (covers S p q) (λ k. both (covers_meets p q t g k h) (shut q m e)) (λ k. rw (e, k))))

  -- (a) from a list to the verdict
  pub suitable_converts : (r : RuleList W) → Suitable S r → verdict S ≡ convertible
  unfolding permits
  suitable_converts r s =
      verdict_in_lem S (λ p m e.
      let x = any_out (meets S p) r (s.exact p m ∙ e) in
      meets_judge p x.0 (s.terms x.0 x.1) x.2
      (λ q n u. by_test (meets S q x.0) (λ h. both (any_in (meets S q) r x.1 h) (s.exact q n ∙ u)) (λ h. h)))

  -- (b) from the verdict to a list: the term of a pair with a word and no rival is a term that shuts out every pair not permitted
  pub term_is_term : (p : P) → judge S p ≡ convertible → IsTerm S (term_of S p)
  term_is_term p e =
      record {
        full = term_full S p (judge_word S p e).1;
        counts = λ i m. let r = term_owned S p i m in rw r.2 (words_out S p r.1).1;
        listed = λ i m. let r = term_owned S p i m in rw r.2 (words_out S p r.1).0;
      }

  pub term_permits_none_other : (p : P) → judge S p ≡ convertible
      → (q : P) → Memᴰ q S.pairs → S.permitted q ≡ false → meets S q (term_of S p) ≡ false
  term_permits_none_other p e q m u = term_shuts S p q m u (judge_not_covered S p e q m u)

  pub mined_only : verdict S ≡ convertible → (q : P) → Memᴰ q S.pairs → S.permitted q ≡ false → permits S (mine S) q ≡ false
  unfolding mine permits any_of
  mined_only v q m u =
      mine_all S (λ r. permits S r q ≡ false)
      (λ r p n a b h. permits_last S r (term_of S p) q h ∙ term_permits_none_other p (verdict_out S v p n a) q m u)
      [] S.pairs (λ p n. n) refl

  pub mined_suitable : verdict S ≡ convertible → Suitable S (mine S)
  mined_suitable v =
      record {
        terms = mined_all S (IsTerm S) (λ p m e. term_is_term p (verdict_out S v p m e));
        exact = λ q m. by_test (S.permitted q) (λ e. mined_has S q m e ∙ sym e) (λ e. mined_only v q m e ∙ sym e);
      }

  pub existence : (verdict S ≡ convertible) ↔ ((r : RuleList W) × Suitable S r)
  existence = (λ v. (mine S, mined_suitable v), λ x. suitable_converts x.0 x.1)

  -- a pair that the term of an unspoiled pair permits has a word and no rival
  pub earlier_term : (p q : P) → judge S p ≡ convertible → meets S q (term_of S p) ≡ true → judge S q ≡ convertible
  earlier_term p q e h = meets_judge q (term_of S p) (term_is_term p e) h (term_permits_none_other p e)
