-- Demand 3 for a matter, in 01's own words: the existence theorem at the matter's pairs, words
-- and scores, where a score is 1 exactly where the pair has the word.
use Rattle.std.proofs.Common.{◌≡◌, refl, sym, ◌∙◌, ◌↔◌, true, false, List, [], ◌∷◌, map, ℕ, suc}
use Rattle.std.proofs.Common.{◌*◌, ◌-◌, ◌≤◌, arith, mul-le-mul, leb, length, le-leb, leb-true}
use mathlib.Core.List.Memᴰ
use mathlib.Core.List.{Memᴰ}
use Rattle.lists.specs.Lists.{all_of, any_of}
use Rattle.lists.specs.Order.{Ascending, Distinct, only_if}
use Rattle.lists.proofs.Cases.{by_test}
use Rattle.lists.proofs.ListLaws.{map_out}
use Rattle.lists.proofs.OrderLaws.{length_map, ascending_filter, ascending_distinct}
use Rattle.rebac.specs.Matter.{Matter, Pair, pairs_of, permitted}
use Rattle.rebac.specs.Words.{Word, before}
use Rattle.rebac.specs.Paths.{has, HasPath}
use Rattle.rebac.specs.Symbols.{alphabet, enlarged, cap_of}
use Rattle.rebac.specs.Rules.{Item, Term, RuleList, meets_item, meets, permits}
use Rattle.rebac.specs.Verdict.{convertible, no_word, rivalled, words_of}
use Rattle.rebac.specs.Mining.{item_of}
use Rattle.rebac.proofs.Suitable.{Suitable, one, ones}
use Rattle.rebac.specs.Existence.{matter_words, score, problem_over, problem_of, verdict_of, mined_list, MatterWord}
use Rattle.rebac.specs.Existence.{HasWord, has_all, permits_pair, Converts, plain_term, plain_list}
use Rattle.rebac.specs.NextWord.{pair_words}
use Rattle.rebac.proofs.LexOrder.{before_irreflexive}
use Rattle.rebac.proofs.Reach.{count_has, count_one, has_in, has_out}
use Rattle.rebac.proofs.SearchLaws.{count_at_most}
use Rattle.rebac.proofs.WordsLaws.{words_listed, listed_words, words_ascending}
use Rattle.rebac.proofs.SymbolsLaws.{alphabet_ascending, cap_positive}
use Rattle.rebac.proofs.PairsLaws.{pairs_length}
use Rattle.rebac.proofs.MiningLaws.{words_in, words_out, term_owned, term_length, mined_all, mined_length}
use Rattle.rebac.proofs.VerdictLaws.{NoWord, Rivalled, verdict_no_word, verdict_rival}
use Rattle.rebac.proofs.Existence.{suitable_converts, mined_suitable}

module _ (M : Matter) where
  -- the symbols of the matter's language
  abbrev al : List ℕ
  al = alphabet M.language M.labels

  -- the score is 1 or more exactly where the pair has the word
  pub score_has : (p : Pair) (w : Word) → leb 1 (score M p w) ≡ has (enlarged M) p w
  score_has p w = count_has (enlarged M) (cap_of M.language) (cap_positive M.language) p w

  -- where words are not counted: 1 where it has the word, else 0
  pub score_one : cap_of M.language ≡ 1 → (p : Pair) (w : Word) → score M p w ≡ only_if (has (enlarged M) p w) 1
  score_one c p w = rw c (count_one (enlarged M) p w)

  -- the words of a pair: the words of the matter that it has, in word order, each once
  pub pair_words_in : (p : Pair) (w : Word) → MatterWord M w → has (enlarged M) p w ≡ true → Memᴰ w (pair_words M p)
  unfolding pair_words problem_of problem_over matter_words
  pair_words_in p w f h =
      words_in (problem_of M) p (words_listed al M.longest w f) (leb-true 1 (score M p w) (score_has p w ∙ h))

  pub pair_words_out : (p : Pair) (w : Word) → Memᴰ w (pair_words M p) → MatterWord M w × (has (enlarged M) p w ≡ true)
  unfolding pair_words problem_of problem_over matter_words
  pair_words_out p w m =
      let r = words_out (problem_of M) p m in
      (listed_words al M.longest w r.0, sym (score_has p w) ∙ le-leb 1 (score M p w) r.1)

  -- in 01's words: the members are the words that the pair has
  pub word_in : (p : Pair) (w : Word) → HasWord M p w → Memᴰ w (pair_words M p)
  word_in p w h = pair_words_in p w h.0 (has_in (enlarged M) p w h.1.0 h.1.1)

  pub word_out : (p : Pair) (w : Word) → Memᴰ w (pair_words M p) → HasWord M p w
  word_out p w m = let r = pair_words_out p w m in (r.0, has_out (enlarged M) p w r.0.some r.1)

  pub pair_words_ascending : (p : Pair) → Ascending before (pair_words M p)
  unfolding pair_words words_of problem_of problem_over matter_words
  pair_words_ascending p =
      ascending_filter before (λ w. leb 1 (score M p w)) (matter_words M)
      (words_ascending al (alphabet_ascending M.language M.labels) M.longest)

  pub pair_words_distinct : (p : Pair) → Distinct (pair_words M p)
  pair_words_distinct p = ascending_distinct before before_irreflexive (pair_words M p) (pair_words_ascending p)

  -- every item of the mined list is a word of the pair that it was mined for, with the pair's own score
  mined_item : (G : Item Word → Type 0) → ((p : Pair) (w : Word) → Memᴰ w (pair_words M p) → G (item_of (problem_of M) p w))
      → (t : Term Word) → Memᴰ t (mined_list M) → (i : Item Word) → Memᴰ i t → G i
  unfolding mined_list pair_words
  mined_item G f =
      mined_all (problem_of M) (λ t. (i : Item Word) → Memᴰ i t → G i)
      (λ p m e i n. let r = term_owned (problem_of M) p i n in rw r.2 (f p r.0 r.1))

  -- a mined term belongs to a permitted pair, and each of its words is the pair's own
  pub record MinedFor (p : Pair) (t : Term Word) : Type 0 where
    pub listed : Memᴰ p (pairs_of M.parties)
    pub permit : permitted M p ≡ true
    pub words : (i : Item Word) → Memᴰ i t → Memᴰ i.word (pair_words M p)

  pub mined_for_lem : (t : Term Word) → Memᴰ t (mined_list M) → (p : Pair) × MinedFor p t
  unfolding mined_list pair_words problem_of problem_over
  mined_for_lem =
      mined_all (problem_of M) (λ t. (p : Pair) × MinedFor p t)
      (λ p m e. (
        p,
        record {
          listed = m;
          permit = e;
          words = λ i n. let r = term_owned (problem_of M) p i n in rw r.2 r.1;
        },
      ))

  -- at most n (n - 1) terms, and one item more in a term
  pub mined_terms : length (mined_list M) ≤ M.parties * (M.parties - 1)
  unfolding mined_list problem_of problem_over
  mined_terms = rw (← pairs_length M.parties) (mined_length (problem_of M))

  pub mined_items : (t : Term Word) → Memᴰ t (mined_list M) → length t ≤ suc (M.parties * (M.parties - 1))
  unfolding mined_list problem_of problem_over
  mined_items =
      mined_all (problem_of M) (λ t. length t ≤ suc (M.parties * (M.parties - 1)))
      (λ p m e. rw (← pairs_length M.parties) (term_length (problem_of M) p))

  pairs_bounded : M.parties ≤ 32 → M.parties * (M.parties - 1) ≤ 992
  pairs_bounded h = mul-le-mul {n₂ = 32} {m₂ = 31} h (omega arith)

  pub mined_terms_bounded : M.parties ≤ 32 → length (mined_list M) ≤ 992
  mined_terms_bounded h = omega (arith, mined_terms, pairs_bounded h)

  pub mined_items_bounded : M.parties ≤ 32 → (t : Term Word) → Memᴰ t (mined_list M) → length t ≤ 993
  mined_items_bounded h t m = omega (arith, mined_items t m, pairs_bounded h)

  -- the mined words are words of the matter: 1 to D symbols of its language
  pub mined_words : (t : Term Word) → Memᴰ t (mined_list M) → (i : Item Word) → Memᴰ i t → MatterWord M i.word
  mined_words = mined_item (λ i. MatterWord M i.word) (λ p w m. (pair_words_out p w m).0)

  -- every m of the mined list is from 1 to the cap
  pub mined_counts : (t : Term Word) → Memᴰ t (mined_list M)
      → (i : Item Word) → Memᴰ i t → (1 ≤ i.count) × (i.count ≤ cap_of M.language)
  unfolding problem_of problem_over
  mined_counts =
      mined_item (λ i. (1 ≤ i.count) × (i.count ≤ cap_of M.language))
      (λ p w m. (
        leb-true 1 (score M p w) (score_has p w ∙ (pair_words_out p w m).1),
        count_at_most (enlarged M) (cap_of M.language) p w,
      ))

  -- a not-convertible verdict: the first permitted pair in order with no word or with a rival
  pub no_word_verdict : (p : Pair) → verdict_of M ≡ no_word p → NoWord (problem_of M) p
  unfolding verdict_of
  no_word_verdict p v = verdict_no_word (problem_of M) p v

  pub rival_verdict : (p q : Pair) → verdict_of M ≡ rivalled p q → Rivalled (problem_of M) p q
  unfolding verdict_of
  rival_verdict p q v = verdict_rival (problem_of M) p q v

  -- a pair with no word has no path with any word of the matter
  pub no_word_no_path : (p : Pair) → verdict_of M ≡ no_word p → (w : Word) → MatterWord M w → has (enlarged M) p w ≡ false
  unfolding pair_words
  no_word_no_path p v w f =
      by_test (has (enlarged M) p w)
      (λ h. absurd (Memᴰ.not-nil (rw (no_word_verdict p v).empty at (pair_words_in p w f h))))
      (λ h. h)

  -- each word of the pair has a path for both
  pub shared_words : (p q : Pair) → verdict_of M ≡ rivalled p q
      → (w : Word) → Memᴰ w (pair_words M p) → HasPath (enlarged M) p w × HasPath (enlarged M) q w
  unfolding pair_words problem_of problem_over
  shared_words p q v w m =
      let r : (1 ≤ score M p w) × (score M p w ≤ score M q w) = (rival_verdict p q v).shared w m in
      let h : 1 ≤ length w = (pair_words_out p w m).0.some in (
        has_out (enlarged M) p w h (sym (score_has p w) ∙ le-leb 1 (score M p w) r.0),
        has_out (enlarged M) q w h (sym (score_has q w) ∙ le-leb 1 (score M q w) (omega (arith, r.0, r.1))),
      )

term_ones : (t : List Word) → plain_term (map one t) ≡ t
term_ones [] = refl
term_ones (w ∷ t) = rw (term_ones t)

plain_ones : (r : List (List Word)) → plain_list (ones r) ≡ r
plain_ones [] = refl
plain_ones (t ∷ r) = rw (term_ones t, plain_ones r)

module _ (M : Matter) where
  -- a term in which every m is 1 is met where the pair has its words
  pub meets_one : (p : Pair) (t : Term Word) → ((i : Item Word) → Memᴰ i t → i.count ≡ 1)
      → meets (problem_of M) p t ≡ has_all M p (plain_term t)
  unfolding meets meets_item has_all problem_of problem_over all_of
  meets_one p [] f = refl
  meets_one p (i ∷ t) f = rw (f i (Memᴰ.head refl), score_has M p i.word, meets_one p t (λ j m. f j (Memᴰ.tail m)))

  -- a rule list in which every m is 1 permits as its words do
  pub permits_one : (p : Pair) (r : RuleList Word) → ((t : Term Word) → Memᴰ t r → (i : Item Word) → Memᴰ i t → i.count ≡ 1)
      → permits (problem_of M) r p ≡ permits_pair M (plain_list r) p
  unfolding permits permits_pair any_of
  permits_one p [] f = refl
  permits_one p (t ∷ r) f = rw (meets_one p t (f t (Memᴰ.head refl)), permits_one p r (λ u m. f u (Memᴰ.tail m)))

  -- from any list to the verdict
  pub converts_verdict : (r : List (List Word)) → Converts M r → verdict_of M ≡ convertible
  unfolding verdict_of problem_of problem_over matter_words
  converts_verdict r c =
      suitable_converts (problem_of M) (ones r) (record {
        terms = λ t m. let s = map_out (λ t. map one t) r m in rw s.2 (record {
          full = rw (length_map one s.0) (c.any.full s.0 s.1);
          counts = λ i n. let v = map_out one s.0 n in rw v.2 (omega arith);
          listed = λ i n.
              let v = map_out one s.0 n in
              rw v.2 (words_listed (al M) M.longest v.0 (c.fits s.0 s.1 v.0 v.1));
        });
        exact = λ p m. permits_one p (ones r) all_ones ∙ rw (plain_ones r) (c.any.exact p m);
      })
    where
      all_ones : (t : Term Word) → Memᴰ t (ones r) → (i : Item Word) → Memᴰ i t → i.count ≡ 1
      all_ones t k i n =
          let s = map_out (λ t. map one t) r k in
          let v = map_out one s.0 (rw s.2 at n) in
          rw v.2

  module _ (cap : cap_of M.language ≡ 1) where
    -- in the mined list every m is 1
    pub mined_ones : (t : Term Word) → Memᴰ t (mined_list M) → (i : Item Word) → Memᴰ i t → i.count ≡ 1
    unfolding problem_of problem_over
    mined_ones = mined_item M (λ i. i.count ≡ 1) (λ p w m. rw (score_one M cap p w, (pair_words_out M p w m).1))

    -- from the verdict to a list: the mined one
    pub mined_converts : verdict_of M ≡ convertible → Converts M (plain_list (mined_list M))
    unfolding verdict_of mined_list problem_of problem_over
    mined_converts v =
        let x : Suitable (problem_of M) (mined_list M) = mined_suitable (problem_of M) v in
        let words : (t : List Word) → Memᴰ t (plain_list (mined_list M)) → (w : Word) → Memᴰ w t → MatterWord M w =
        λ t m w n.
        let s = map_out plain_term (mined_list M) m in
        let i = map_out (λ i. i.word) s.0 (rw s.2 at n) in
        rw i.2 (mined_words M s.0 s.1 i.0 i.1) in
        record {
          any = record {
            full = λ t m.
                let s = map_out plain_term (mined_list M) m in
                rw (s.2, length_map (λ i. i.word) s.0) (x.terms s.0 s.1).full;
            short = λ t m w n. (words t m w n).short;
            exact = λ p m. sym (permits_one p (mined_list M) mined_ones) ∙ x.exact p m;
          };
          fits = words;
        }

    -- Definition 3.8 and demand 3: convertible exactly where some rule list permits exactly the permitted pairs
    pub convertible_iff : (verdict_of M ≡ convertible) ↔ ((r : List (List Word)) × Converts M r)
    convertible_iff = (λ v. (plain_list (mined_list M), mined_converts v), λ x. converts_verdict x.0 x.1)
