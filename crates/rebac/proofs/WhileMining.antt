-- The verdict may be reached while mining: a pair that an earlier term permits is no
-- hindrance, and a rival shows while its pair's term is built.
use Rattle.std.proofs.Common.{◌≡◌, refl, sym, ap, ◌∙◌, ◌↔◌, true, false, not, ◌&&◌, List, [], ◌∷◌, ◌++◌, leb-true, le-ltb}
use Rattle.std.proofs.lemmas.Bool.{not-false}
use Rattle.std.proofs.Math.Option.{none, some}
use Rattle.lists.specs.Lists.{any_of, first_by}
use Rattle.lists.proofs.Cases.{by_test, by_found, clash, both, and_false, and_both, and_left}
use Rattle.lists.proofs.ListLaws.{all_in, all_of_lem, find_none_of, find_in}
use Rattle.rebac.specs.Rules.{Problem, Term, RuleList, meets_item, meets, permits}
use Rattle.rebac.specs.Verdict.{Verdict, convertible, no_word, rivalled, words_of, covers, rival}
use Rattle.rebac.specs.Verdict.{ruling, judge, spoils, judge_first, verdict}
use Rattle.rebac.specs.Mining.{item_of, lacks, begin, term_of}
use Rattle.rebac.specs.promises.WhileMining.{rival_from, judge_from, passing, verdict_from}
use Rattle.rebac.proofs.MiningLaws.{Owned, owned_more, begin_owned, covers_of, permits_last}
use Rattle.rebac.proofs.Existence.{earlier_term}

module _ {P W : Type 0} (S : Problem P W) where
  -- q has all words of p exactly where the search for the first that it lacks finds none
  pub covers_none : (p q : P) → (covers S p q ≡ true) ↔ (first_by (lacks S p q) (words_of S p) ≡ none)
  unfolding covers lacks
  covers_none p q = (
    λ c. find_none_of _ (words_of S p)
        (λ w m. le-ltb (S.score q w) (S.score p w) (leb-true (S.score p w) (S.score q w) (all_in _ (words_of S p) c m))),
    covers_of S p q,
  )

  -- a rival meets every term made of its pair's words, so it is met while the term is built
  pub rival_meets : (p q : P) (t : Term W) → Owned S p t → covers S p q ≡ true → meets S q t ≡ true
  unfolding covers meets meets_item
  rival_meets p q t o c = all_of_lem _ t (λ i m. let r = o i m in rw r.2 (all_in _ (words_of S p) c r.1))

  -- so the first rival shows as the first pair that meets the term so far and lacks no word
  not_met : (p q : P) (t : Term W) → Owned S p t → (not (S.permitted q) && meets S q t) ≡ false → rival S p q ≡ false
  unfolding rival
  not_met p q t o e =
      by_test (S.permitted q)
      (λ u. rw u)
      (λ u. by_test (covers S p q) (λ c. both (rival_meets p q t o c) (rw u at e)) (λ c. rw (u, c)))

  not_covering : (p q : P) {w : W} → first_by (lacks S p q) (words_of S p) ≡ some w → rival S p q ≡ false
  unfolding rival
  not_covering p q e = by_test (covers S p q) (λ c. clash (cc (sym ((covers_none p q).0 c) ∙ e))) (λ c. and_false (not (S.permitted q)) c)

  met_and_covering : (p q : P) (t : Term W) → (not (S.permitted q) && meets S q t) ≡ true
      → first_by (lacks S p q) (words_of S p) ≡ none → rival S p q ≡ true
  unfolding rival
  met_and_covering p q t e f = and_both (and_left (not (S.permitted q)) (meets S q t) e) (covers_of S p q f)

  pub rival_from_lem : (p : P) (t : Term W) (qs : List P) → Owned S p t → rival_from S p t qs ≡ first_by (rival S p) qs
  unfolding rival_from first_by
  rival_from_lem p t [] o = refl
  rival_from_lem p t (q ∷ qs) o =
      by_test (not (S.permitted q) && meets S q t)
      (λ e. by_found (first_by (lacks S p q) (words_of S p))
      (λ f. rw (e, f, met_and_covering p q t e f, rival_from, first_by))
      (λ w f.
      let longer : Owned S p (t ++ (item_of S p w ∷ [])) = owned_more S p t w (find_in _ _ f) o in
      rw (e, f, not_covering p q f, rival_from, first_by) (rival_from_lem p (t ++ (item_of S p w ∷ [])) qs longer)))
      (λ e. rw (e, not_met p q t o e, rival_from, first_by) (rival_from_lem p t qs o))

  pub judge_from_lem : (p : P) → judge_from S p ≡ judge S p
  unfolding judge_from judge
  judge_from_lem p =
      ap (ruling S p (words_of S p))
      (rival_from_lem p (begin S p (words_of S p)) S.pairs (begin_owned S p (words_of S p) (λ w m. m)))

  -- every pair that the list permits has a word and no rival
  abbrev Sound : RuleList W → Type 0
  Sound r = (q : P) → permits S r q ≡ true → judge S q ≡ convertible

  sound_more : (r : RuleList W) (p : P) → Sound r → judge S p ≡ convertible → Sound (r ++ (term_of S p ∷ []))
  sound_more r p f e q h =
      by_test (permits S r q) (λ k. f q k) (λ k. earlier_term S p q e (sym (permits_last S r (term_of S p) q k) ∙ h))

  passes : (r : RuleList W) (p : P) → Sound r → (S.permitted p && not (permits S r p)) ≡ false → spoils S p ≡ false
  unfolding spoils
  passes r p f e = by_test (S.permitted p) (λ h. rw (f p (not-false _ (rw h at e))) (and_false (S.permitted p) refl)) (λ h. rw h)

  -- p's own verdict decides, or the pairs after it do
  go : (v : Verdict P) (p : P) (ps : List P) (rest : Verdict P) → judge S p ≡ v → S.permitted p ≡ true
      → (v ≡ convertible → rest ≡ judge_first S (first_by (spoils S) ps)) → passing S v rest ≡ judge_first S (first_by (spoils S) (p ∷ ps))
  unfolding first_by spoils
  go convertible p ps rest e h f = rw (h, e, first_by) (f refl)
  go (no_word x) p ps rest e h f = rw (h, e, first_by) (sym e)
  go (rivalled x y) p ps rest e h f = rw (h, e, first_by) (sym e)

  from_list : (r : RuleList W) (ps : List P) → Sound r → verdict_from S r ps ≡ judge_first S (first_by (spoils S) ps)
  unfolding verdict_from first_by
  from_list r [] f = refl
  from_list r (p ∷ ps) f =
      by_test (S.permitted p && not (permits S r p))
      (λ e.
      let longer : RuleList W = r ++ (term_of S p ∷ []) in
      let permit : S.permitted p ≡ true = and_left (S.permitted p) (not (permits S r p)) e in
      rw (e, judge_from_lem p, verdict_from)
      (go (judge S p) p ps (verdict_from S longer ps) refl permit (λ j. from_list longer ps (sound_more r p f j))))
      (λ e. rw (e, verdict_from, passes r p f e, first_by) (from_list r ps f))

  pub verdict_while_mining : verdict_from S [] S.pairs ≡ verdict S
  unfolding verdict permits any_of
  verdict_while_mining = from_list [] S.pairs (λ q e. clash (sym e))
