-- What mining keeps, step by step: one induction for a term and one for a list, each over any property that a step preserves.
use Rattle.std.proofs.Common.{◌≡◌, refl, ◌∙◌, true, false, not, ◌&&◌, List, [], ◌∷◌, ◌++◌, suc, ◌+◌, ◌≤◌}
use Rattle.std.proofs.Common.{arith, length, length-append, leb-true, ltb-true, ltb-false, le-leb}
use Rattle.std.proofs.lemmas.Bool.{lt-leb, not-true, not-false}
use mathlib.Core.List.Memᴰ
use mathlib.Core.List.{Memᴰ}
use Rattle.std.proofs.Math.Option.{none}
use Rattle.lists.specs.Lists.{all_of, first_by}
use Rattle.lists.proofs.Cases.{by_test, by_found, by_mem, by_last, both, and_false, and_left, and_right}
use Rattle.lists.proofs.ListLaws.{all_of_lem, filter_in, filter_out, find_none, find_some}
use Rattle.lists.proofs.ListLaws.{find_in, all_append, any_append, all_one, any_one}
use Rattle.rebac.specs.Rules.{Problem, Item, Term, RuleList, meets_item, meets, permits}
use Rattle.rebac.specs.Verdict.{words_of, covers}
use Rattle.rebac.specs.Mining.{item_of, lacks, add_against, add_all, begin, term_of, mine_from, mine}

module _ {P W : Type 0} (S : Problem P W) where
  -- the words of a pair are the words at which it scores
  pub words_in : (p : P) {w : W} → Memᴰ w S.words → 1 ≤ S.score p w → Memᴰ w (words_of S p)
  unfolding words_of
  words_in p m h = filter_in _ _ m (le-leb _ _ h)

  pub words_out : (p : P) {w : W} → Memᴰ w (words_of S p) → Memᴰ w S.words × (1 ≤ S.score p w)
  unfolding words_of
  words_out p {w} m = let r = filter_out _ _ m in (r.0, leb-true 1 (S.score p w) r.1)

  -- a step leaves the term or adds a word of the pair at its end
  add_against_lem : (G : Term W → Type 0) (p q : P) (t : Term W) → G t
      → ((w : W) → Memᴰ w (words_of S p) → G (t ++ (item_of S p w ∷ []))) → G (add_against S p t q)
  unfolding add_against
  add_against_lem G p q t h k =
      by_test (not (S.permitted q) && meets S q t)
      (λ e. rw (e, add_against) (by_found (first_by (lacks S p q) (words_of S p)) (λ f. rw f h) (λ w f. rw f (k w (find_in _ _ f)))))
      (λ e. rw (e, add_against) h)

  -- so what adding a word of the pair preserves holds after any number of steps
  pub add_all_lem : (G : Term W → Type 0) (p : P) → ((t : Term W) (w : W) → Memᴰ w (words_of S p) → G t → G (t ++ (item_of S p w ∷ [])))
      → (t : Term W) (qs : List P) → G t → G (add_all S p t qs)
  unfolding add_all
  add_all_lem G p f t [] h = h
  add_all_lem G p f t (q ∷ qs) h = add_all_lem G p f (add_against S p t q) qs (add_against_lem G p q t h (λ w m. f t w m h))

  -- and of the pair's term, where it holds at the beginning
  term_all : (G : Term W → Type 0) (p : P) → ((t : Term W) (w : W) → Memᴰ w (words_of S p) → G t → G (t ++ (item_of S p w ∷ [])))
      → G (begin S p (words_of S p)) → G (term_of S p)
  unfolding term_of
  term_all G p f h = add_all_lem G p f (begin S p (words_of S p)) S.pairs h

  -- a pair meets a longer term where it meets the term and the item added
  pub meets_more : (q : P) (t : Term W) (i : Item W) → meets S q (t ++ (i ∷ [])) ≡ (meets S q t && meets_item S q i)
  unfolding meets
  meets_more q t i = rw (all_append, all_one)

  -- a pair that fails a term fails each longer one
  keeps_out : (p q : P) (t : Term W) (w : W) → meets S q t ≡ false → meets S q (t ++ (item_of S p w ∷ [])) ≡ false
  unfolding meets
  keeps_out p q t w h = rw (all_append, h)

  -- a pair meets its own words, so its own term
  own_item : (p : P) (w : W) → meets_item S p (item_of S p w) ≡ true
  unfolding meets_item
  own_item p w = le-leb (S.score p w) (S.score p w) (omega arith)

  keeps_own : (p : P) (t : Term W) (w : W) → meets S p t ≡ true → meets S p (t ++ (item_of S p w ∷ [])) ≡ true
  unfolding meets
  keeps_own p t w h = rw (all_append, h, all_one, own_item p w)

  begin_own : (p : P) (ws : List W) → meets S p (begin S p ws) ≡ true
  unfolding meets all_of
  begin_own p [] = refl
  begin_own p (w ∷ ws) = rw (own_item p w)

  pub own_term : (p : P) → meets S p (term_of S p) ≡ true
  own_term p = term_all (λ t. meets S p t ≡ true) p (λ t w m h. keeps_own p t w h) (begin_own p (words_of S p))

  -- an unpermitted pair that lacks a word of p is shut out at its step, and stays out
  lacks_item : (p q : P) (w : W) → lacks S p q w ≡ true → meets_item S q (item_of S p w) ≡ false
  unfolding lacks meets_item
  lacks_item p q w h = lt-leb (S.score p w) (S.score q w) (ltb-true (S.score q w) (S.score p w) h)

  pub covers_of : (p q : P) → first_by (lacks S p q) (words_of S p) ≡ none → covers S p q ≡ true
  unfolding covers lacks
  covers_of p q f = all_of_lem _ _ (λ w m. le-leb (S.score p w) (S.score q w) (ltb-false (S.score q w) (S.score p w) (find_none _ _ f m)))

  shuts_step : (p q : P) (t : Term W) → S.permitted q ≡ false → covers S p q ≡ false → meets S q (add_against S p t q) ≡ false
  unfolding add_against meets
  shuts_step p q t u c =
      by_test (meets S q t)
      (λ e. rw (u, e, add_against) (by_found (first_by (lacks S p q) (words_of S p))
      (λ f. both (covers_of p q f) c)
      (λ w f. rw (f, all_append, all_one) (and_false (meets S q t) (lacks_item p q w (find_some _ _ f).here)))))
      (λ e. rw (u, e, add_against) e)

  shuts : (p q : P) (t : Term W) {qs : List P} → Memᴰ q qs → S.permitted q ≡ false
      → covers S p q ≡ false → meets S q (add_all S p t qs) ≡ false
  unfolding add_all
  shuts p q t {qs = []} m u c = absurd (Memᴰ.not-nil m)
  shuts p q t {qs = x ∷ qs} m u c =
      by_mem m
      (λ e. add_all_lem (λ t. meets S q t ≡ false) p (λ t w n h. keeps_out p q t w h) (add_against S p t x) qs
      (rw (← e) (shuts_step p q t u c)))
      (λ n. shuts p q (add_against S p t x) {qs = qs} n u c)

  pub term_shuts : (p q : P) → Memᴰ q S.pairs → S.permitted q ≡ false → covers S p q ≡ false → meets S q (term_of S p) ≡ false
  unfolding term_of
  term_shuts p q m u c = shuts p q (begin S p (words_of S p)) m u c

  -- every item of a pair's term is a word of the pair with its own score
  abbrev pub Owned : P → Term W → Type 0
  Owned p t = (i : Item W) → Memᴰ i t → (w : W) × Memᴰ w (words_of S p) × (i ≡ item_of S p w)

  pub owned_more : (p : P) (t : Term W) (w : W) → Memᴰ w (words_of S p) → Owned p t → Owned p (t ++ (item_of S p w ∷ []))
  owned_more p t w m h i n = by_last t n (λ k. h i k) (λ q. (w, m, q))

  pub begin_owned : (p : P) (ws : List W) → ((w : W) → Memᴰ w ws → Memᴰ w (words_of S p)) → Owned p (begin S p ws)
  begin_owned p [] f i m = absurd (Memᴰ.not-nil m)
  begin_owned p (v ∷ vs) f i m = by_mem m (λ e. (v, f v (Memᴰ.head refl), e)) (λ n. absurd (Memᴰ.not-nil n))

  pub term_owned : (p : P) → Owned p (term_of S p)
  term_owned p = term_all (Owned p) p (λ t w m h. owned_more p t w m h) (begin_owned p (words_of S p) (λ w m. m))

  -- a pair with a word has a term of one word or more
  begin_full : (p : P) {ws : List W} {w : W} → Memᴰ w ws → 1 ≤ length (begin S p ws)
  begin_full p {ws = []} m = absurd (Memᴰ.not-nil m)
  begin_full p {ws = v ∷ vs} m = omega arith

  pub term_full : (p : P) {w : W} → Memᴰ w (words_of S p) → 1 ≤ length (term_of S p)
  term_full p m = term_all (λ t. 1 ≤ length t) p (λ t w n h. omega (arith, length-append t (item_of S p w ∷ []))) (begin_full p m)

  -- a term has at most one word for each pair, and the first
  add_length : (p : P) (t : Term W) (qs : List P) → length (add_all S p t qs) ≤ length t + length qs
  unfolding add_all
  add_length p t [] = omega arith
  add_length p t (q ∷ qs) =
      let u : Term W = add_against S p t q in
      let a : length u ≤ suc (length t) = add_against_lem (λ u. length u ≤ suc (length t)) p q t (omega arith)
      (λ w m. omega (arith, length-append t (item_of S p w ∷ []))) in
      let b : length (add_all S p u qs) ≤ length u + length qs = add_length p u qs in
      omega arith

  begin_length : (p : P) (ws : List W) → length (begin S p ws) ≤ 1
  begin_length p [] = omega arith
  begin_length p (w ∷ ws) = omega arith

  pub term_length : (p : P) → length (term_of S p) ≤ suc (length S.pairs)
  unfolding term_of
  term_length p = omega (arith, add_length p (begin S p (words_of S p)) S.pairs, begin_length p (words_of S p))

  -- a step of mining leaves the list or adds the term of a permitted pair that it does not permit yet
  mine_step : (G : RuleList W → Type 0) (r : RuleList W) (p : P) (ps : List P)
      → ((S.permitted p && not (permits S r p)) ≡ false → G (mine_from S r ps))
      → (S.permitted p ≡ true → permits S r p ≡ false → G (mine_from S (r ++ (term_of S p ∷ [])) ps)) → G (mine_from S r (p ∷ ps))
  unfolding mine_from
  mine_step G r p ps f g =
      by_test (S.permitted p && not (permits S r p))
      (λ e.
      let new : permits S r p ≡ false = not-true (permits S r p) (and_right (S.permitted p) _ e) in
      rw (e, mine_from) (g (and_left (S.permitted p) _ e) new))
      (λ e. rw (e, mine_from) (f e))

  pub mine_all : (G : RuleList W → Type 0)
      → ((r : RuleList W) (p : P) → Memᴰ p S.pairs → S.permitted p ≡ true → permits S r p ≡ false
      → G r → G (r ++ (term_of S p ∷ [])))
      → (r : RuleList W) (ps : List P) → ((p : P) → Memᴰ p ps → Memᴰ p S.pairs) → G r → G (mine_from S r ps)
  unfolding mine_from
  mine_all G f r [] sub h = h
  mine_all G f r (p ∷ ps) sub h =
      let more : (x : P) → Memᴰ x ps → Memᴰ x S.pairs = λ x n. sub x (Memᴰ.tail n) in
      mine_step G r p ps
      (λ e. mine_all G f r ps more h)
      (λ a b. mine_all G f (r ++ (term_of S p ∷ [])) ps more (f r p (sub p (Memᴰ.head refl)) a b h))

  -- what a list permits, a longer one permits
  pub permits_more : (r : RuleList W) (t : Term W) (q : P) → permits S r q ≡ true → permits S (r ++ (t ∷ [])) q ≡ true
  unfolding permits
  permits_more r t q h = rw (any_append, h)

  pub permits_last : (r : RuleList W) (t : Term W) (q : P) → permits S r q ≡ false → permits S (r ++ (t ∷ [])) q ≡ meets S q t
  unfolding permits
  permits_last r t q h = rw (any_append, h, any_one)

  keeps_permit : (q : P) (r : RuleList W) (ps : List P) → permits S r q ≡ true → permits S (mine_from S r ps) q ≡ true
  unfolding mine_from
  keeps_permit q r [] h = h
  keeps_permit q r (p ∷ ps) h =
      mine_step (λ x. permits S x q ≡ true) r p ps
      (λ e. keeps_permit q r ps h)
      (λ a b. keeps_permit q (r ++ (term_of S p ∷ [])) ps (permits_more r (term_of S p) q h))

  -- every permitted pair ends up permitted, whatever the verdict
  mine_has : (q : P) (r : RuleList W) {ps : List P} → Memᴰ q ps → S.permitted q ≡ true → permits S (mine_from S r ps) q ≡ true
  mine_has q r {ps = []} m u = absurd (Memᴰ.not-nil m)
  mine_has q r {ps = p ∷ ps} m u =
      mine_step (λ x. permits S x q ≡ true) r p ps
      (λ e. by_mem m (λ x. keeps_permit q r ps (not-false _ (rw (← x, u) at e))) (λ n. mine_has q r {ps = ps} n u))
      (λ a b. by_mem m
      (λ x. keeps_permit q (r ++ (term_of S p ∷ [])) ps (permits_last r (term_of S p) q (rw x b) ∙ rw (← x) (own_term q)))
      (λ n. mine_has q (r ++ (term_of S p ∷ [])) {ps = ps} n u))

  pub mined_has : (q : P) → Memᴰ q S.pairs → S.permitted q ≡ true → permits S (mine S) q ≡ true
  unfolding mine
  mined_has q m u = mine_has q [] m u

  -- what holds of every permitted pair's term holds of every mined term
  pub mined_all : (G : Term W → Type 0) → ((p : P) → Memᴰ p S.pairs → S.permitted p ≡ true → G (term_of S p))
      → (t : Term W) → Memᴰ t (mine S) → G t
  unfolding mine
  mined_all G j =
      mine_all (λ r. (t : Term W) → Memᴰ t r → G t)
      (λ r p m a b h t n. by_last r n (λ k. h t k) (λ q. rw q (j p m a)))
      [] S.pairs (λ p m. m) (λ t m. absurd (Memᴰ.not-nil m))

  -- at most one term for each pair
  mine_length : (r : RuleList W) (ps : List P) → length (mine_from S r ps) ≤ length r + length ps
  unfolding mine_from
  mine_length r [] = omega arith
  mine_length r (p ∷ ps) =
      mine_step (λ x. length x ≤ length r + suc (length ps)) r p ps
      (λ e. omega (arith, mine_length r ps))
      (λ a b. omega (arith, mine_length (r ++ (term_of S p ∷ [])) ps, length-append r (term_of S p ∷ [])))

  pub mined_length : length (mine S) ≤ length S.pairs
  unfolding mine
  mined_length = omega (arith, mine_length [] S.pairs)
