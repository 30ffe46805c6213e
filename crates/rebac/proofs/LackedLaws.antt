-- The first word of a pair that another lacks, told without scores and length by length: by cutting the list of words at a length.
use Rattle.std.proofs.Common.{◌≡◌, refl, sym, ap, ◌∙◌, ⊎_elim, Bool, true, ◌&&◌, List, [], ◌∷◌, ◌++◌}
use Rattle.std.proofs.Common.{ℕ, zero, suc, ◌+◌, ◌-◌, ◌≤◌, ◌<◌, arith, leb, length, le-ltb}
use Rattle.std.proofs.Math.Option.{Option, none, some}
use Rattle.lists.specs.Lists.{filter_by, first_by}
use Rattle.lists.proofs.Cases.{by_test, by_found, and_left}
use Rattle.lists.proofs.ListLaws.{find_in, find_none_of, find_some}
use Rattle.lists.proofs.Pointwise.{find_same}
use Rattle.rebac.specs.Matter.{Matter, Pair}
use Rattle.rebac.specs.Words.{Word, lex_less, before, words_up_to, words_of_length}
use Rattle.rebac.specs.Paths.{Graph, has}
use Rattle.rebac.specs.Symbols.{alphabet, enlarged, cap_of}
use Rattle.rebac.specs.Verdict.{words_of}
use Rattle.rebac.specs.Mining.{lacks}
use Rattle.rebac.specs.Existence.{score, matter_words, problem_over, problem_of}
use Rattle.rebac.specs.NextWord.{pair_words}
use Rattle.rebac.specs.promises.Options.{or_else}
use Rattle.rebac.specs.promises.Telling.{tells, first_telling, first_telling_longer}
use Rattle.rebac.proofs.LexOrder.{by_first}
use Rattle.rebac.proofs.NextWords.{first_after}
use Rattle.rebac.proofs.Conversion.{score_has}
use Rattle.rebac.proofs.PlainLaws.{lacks_plain}
use Rattle.rebac.proofs.WordsLaws.{listed_words}

module _ {A : Type 0} (f : A → Bool) where
  pub find_append : (l m : List A) → first_by f (l ++ m) ≡ or_else (first_by f l) (first_by f m)
  unfolding first_by
  find_append [] m = refl
  find_append (x ∷ l) m = by_test (f x) (λ e. rw (e, first_by)) (λ e. rw (e, first_by) (find_append l m))

  pub find_filter : (g : A → Bool) (l : List A) → first_by f (filter_by g l) ≡ first_by (λ x. g x && f x) l
  unfolding first_by filter_by
  find_filter g [] = refl
  find_filter g (x ∷ l) =
      by_test (g x)
      (λ e. by_test (f x) (λ k. rw (e, k, filter_by, first_by)) (λ k. rw (e, k, filter_by, first_by) (find_filter g l)))
      (λ e. rw (e, filter_by, first_by) (find_filter g l))

or_assoc : {A : Type 0} (a b c : Option A) → or_else (or_else a b) c ≡ or_else a (or_else b c)
or_assoc none b c = refl
or_assoc (some x) b c = refl

module _ (g : Graph ℕ) (p q : Pair) (al : List ℕ) where
  -- the words of up to d = k + j symbols: first those of up to k, then the longer ones
  first_cut : (j k d : ℕ) → d ≡ k + j → first_by (tells g p q) (words_up_to al d)
      ≡ or_else (first_by (tells g p q) (words_up_to al k)) (first_telling_longer g p q al k j)
  unfolding first_telling_longer first_telling words_up_to
  first_cut zero k d e = let h : d ≡ k = omega arith in rw h (or_none (first_by (tells g p q) (words_up_to al k)))
    where
      or_none : (o : Option Word) → o ≡ or_else o none
      or_none none = refl
      or_none (some w) = refl
  first_cut (suc j) k d e =
      first_cut j (suc k) d (omega arith)
      ∙ ap (λ o. or_else o (first_telling_longer g p q al (suc k) j))
      (find_append (tells g p q) (words_up_to al k) (words_of_length al (suc k)))
      ∙ or_assoc (first_by (tells g p q) (words_up_to al k)) _ _

-- a pair that scores as high at every word lacks none
pub none_lacked : (M : Matter) (p q : Pair) → ((w : Word) → score M p w ≤ score M q w)
    → first_by (lacks (problem_of M) p q) (pair_words M p) ≡ none
unfolding lacks problem_of problem_over
none_lacked M p q h = find_none_of _ (pair_words M p) (λ w m. le-ltb (score M q w) (score M p w) (h w))

module _ (M : Matter) (plain : cap_of M.language ≡ 1) (p q : Pair) where
  -- a word is lacked exactly where p has it and q has it not
  lacked_tells : (w : Word) → (leb 1 (score M p w) && lacks (problem_of M) p q w) ≡ tells (enlarged M) p q w
  unfolding tells
  lacked_tells w =
      by_test (has (enlarged M) p w)
      (λ e. rw (score_has M p w, e, lacks_plain M plain p q w e))
      (λ e. rw (score_has M p w, e))

  pub first_lacked_tells : first_by (lacks (problem_of M) p q) (pair_words M p)
      ≡ first_by (tells (enlarged M) p q) (words_up_to (alphabet M.language M.labels) M.longest)
  unfolding pair_words words_of problem_of problem_over matter_words
  first_lacked_tells =
      find_filter (lacks (problem_of M) p q) (λ w. leb 1 (score M p w)) (matter_words M)
      ∙ find_same _ _ (matter_words M) (λ w m. lacked_tells w)

  -- where the first lacked word, if there is one, has more than k symbols, the shorter ones may be passed over
  pub first_lacked_longer : (k : ℕ) → k ≤ M.longest
      → ((w : Word) → first_by (lacks (problem_of M) p q) (pair_words M p) ≡ some w → k < length w)
      → first_by (lacks (problem_of M) p q) (pair_words M p)
      ≡ first_telling_longer (enlarged M) p q (alphabet M.language M.labels) k (M.longest - k)
  first_lacked_longer k h long =
      let al : List ℕ = alphabet M.language M.labels in
      let f : Word → Bool = tells (enlarged M) p q in
      let cut : first_by (lacks (problem_of M) p q) (pair_words M p)
      ≡ or_else (first_by f (words_up_to al k)) (first_telling_longer (enlarged M) p q al k (M.longest - k)) =
      first_lacked_tells ∙ first_cut (enlarged M) p q al (M.longest - k) k M.longest (omega (arith, h)) in
      by_found (first_by f (words_up_to al k))
      (λ e. cut ∙ rw e refl)
      (λ w e. absurd (omega (arith, long w (cut ∙ rw e refl), (listed_words al k w (find_in f (words_up_to al k) e)).short)))

  longer : (k : ℕ) (w v : Word) → k < length w → before w v ≡ true → k < length v
  unfolding before
  longer k w v h b =
      ⊎_elim (λ (x : length w < length v). omega arith) (λ x. omega (arith, x.0)) (by_first (length w) (length v) (lex_less w v) b)

  -- so they may where q has every word of p's up to one of more than k symbols
  pub first_lacked_beyond : (k : ℕ) (w : Word) → k < length w → k ≤ M.longest
      → first_by (lacks (problem_of M) p q) (pair_words M p) ≡ first_after M p (lacks (problem_of M) p q) w
      → first_by (lacks (problem_of M) p q) (pair_words M p)
      ≡ first_telling_longer (enlarged M) p q (alphabet M.language M.labels) k (M.longest - k)
  first_lacked_beyond k w h l had =
      first_lacked_longer k l (λ v e. longer k w v h (and_left (before w v) _ (find_some _ _ (sym had ∙ e)).here))
