-- Next word gives the least word of the pair after a word, and from the empty word on
-- hands out each word once: by where the list in order is cut.
use Rattle.std.proofs.Common.{◌≡◌, refl, sym, ap, ◌∙◌, ⊎_elim, Bool, true, false, ◌&&◌, List, []}
use Rattle.std.proofs.Common.{◌∷◌, ◌++◌, append_assoc, ℕ, zero, suc, ◌≤◌, ◌<◌, arith, length}
use mathlib.Core.List.Memᴰ
use mathlib.Core.List.{Memᴰ}
use Rattle.std.proofs.Math.Option.{Option, none, some}
use Rattle.lists.specs.Lists.{first_by}
use Rattle.lists.specs.Order.{Ascending, first_element}
use Rattle.lists.proofs.Cases.{by_test, by_last, both, and_false}
use Rattle.lists.proofs.ListLaws.{find_none, find_none_of, find_some, find_in}
use Rattle.lists.proofs.OrderLaws.{first_least}
use Rattle.lists.proofs.Pointwise.{find_same, find_and, filter_strictly}
use Rattle.rebac.specs.Matter.{Matter, Pair}
use Rattle.rebac.specs.Words.{Word, lex_less, before}
use Rattle.rebac.proofs.NextWords.{Finds, Later, handed_out, first_after, words_left}
use Rattle.rebac.specs.NextWord.{pair_words, next_word}
use Rattle.rebac.proofs.LexOrder.{first_lower, before_irreflexive, before_transitive}
use Rattle.rebac.proofs.Conversion.{pair_words_in, pair_words_out, pair_words_ascending}

pub next_finds : (M : Matter) (p : Pair) (w : Word) → Finds before (Later M p w) (next_word M p w)
unfolding next_word
next_finds M p w =
    record {
      missing = λ e v r. both r.after (find_none (before w) (pair_words M p) e (pair_words_in M p v r.fits r.held));
      found = λ v e.
          let k = pair_words_out M p v (find_in (before w) (pair_words M p) e) in
          record { fits = k.0; held = k.1; after = (find_some (before w) (pair_words M p) e).here };
      least = λ v e u r.
          let m = pair_words_in M p u r.fits r.held in
          first_least before (before w) (pair_words M p) (pair_words_ascending M p) e m r.after;
    }

-- two searches for the least word with one property give the same
pub finds_same : (R : Word → Word → Bool) → ((w : Word) → R w w ≡ false) → ((u v w : Word) → R u v ≡ true → R v w ≡ true → R u w ≡ true)
    → (A : Word → Type 0) (o k : Option Word) → Finds R A o → Finds R A k → o ≡ k
finds_same R i t A none none f g = refl
finds_same R i t A none (some v) f g = absurd (f.missing refl v (g.found v refl))
finds_same R i t A (some v) none f g = absurd (g.missing refl v (f.found v refl))
finds_same R i t A (some v) (some w) f g =
    ⊎_elim (λ (e : v ≡ w). ap some e)
    (λ (h : R v w ≡ true). ⊎_elim
    (λ (e : w ≡ v). ap some (sym e))
    (λ (k : R w v ≡ true). both (t v w v h k) (i v))
    (g.least w refl v (f.found v refl)))
    (f.least v refl w (g.found w refl))

-- the first after a cut
first_append : {A : Type 0} (p : A → Bool) (l m : List A) → ((x : A) → Memᴰ x l → p x ≡ false) → first_by p (l ++ m) ≡ first_by p m
unfolding first_by
first_append p [] m f = refl
first_append p (x ∷ l) m f = rw (f x (Memᴰ.head refl), first_by) (first_append p l m (λ y n. f y (Memᴰ.tail n)))

-- the list is cut at w: nothing before the cut stands after w, everything behind it does
record Cut (w : Word) (pre post : List Word) : Type 0 where
  passed : (x : Word) → Memᴰ x pre → before w x ≡ false
  ahead : (x : Word) → Memᴰ x post → before w x ≡ true
  apart : (x y : Word) → Memᴰ x pre → Memᴰ y post → before x y ≡ true
  order : Ascending before post

cut_next : (w v : Word) (pre post : List Word) → Cut w pre (v ∷ post) → Cut v (pre ++ (v ∷ [])) post
cut_next w v pre post c =
    let back : (x : Word) → before x v ≡ true → before v x ≡ false =
    λ x h. by_test (before v x) (λ k. both (before_transitive v x v k h) (before_irreflexive v)) (λ k. k) in
    record {
      passed = λ x m. by_last pre m (λ n. back x (c.apart x v n (Memᴰ.head refl))) (λ e. rw e (before_irreflexive v));
      ahead = c.order.0;
      apart = λ x y m n. by_last pre m (λ k. c.apart x y k (Memᴰ.tail n)) (λ e. rw e (c.order.0 y n));
      order = c.order.1;
    }

hands_out : (l : List Word) (k : ℕ) (w : Word) (pre post : List Word) → l ≡ pre ++ post
    → Cut w pre post → length post ≤ k → handed_out (λ w. first_by (before w) l) k w ≡ post
unfolding handed_out first_by
hands_out l zero w pre [] e c h = refl
hands_out l zero w pre (v ∷ post) e c h = absurd (omega arith)
hands_out l (suc k) w pre [] e c h =
    let q : first_by (before w) l ≡ none = rw (e, first_append (before w) pre [] c.passed) in
    rw (q, handed_out)
hands_out l (suc k) w pre (v ∷ post) e c h =
    let q : first_by (before w) l ≡ some v =
    rw (e, first_append (before w) pre (v ∷ post) c.passed, c.ahead v (Memᴰ.head refl), first_by) in
    let split : l ≡ (pre ++ (v ∷ [])) ++ post = e ∙ sym (append_assoc pre (v ∷ []) post) in
    rw (q, handed_out) (ap (λ t. v ∷ t) (hands_out l k v (pre ++ (v ∷ [])) post split (cut_next w v pre post c) (omega arith)))

-- from the empty word on, next word hands out exactly the words of the pair, in order
pub next_hands_out : (M : Matter) (p : Pair) (k : ℕ) → length (pair_words M p) ≤ k → handed_out (next_word M p) k [] ≡ pair_words M p
unfolding next_word before
next_hands_out M p k h =
    hands_out (pair_words M p) k [] [] (pair_words M p) refl
    (record {
      passed = λ x m. absurd (Memᴰ.not-nil m);
      ahead = λ x m. first_lower 0 (length x) (lex_less [] x) (pair_words_out M p x m).0.some;
      apart = λ x y m n. absurd (Memᴰ.not-nil m);
      order = pair_words_ascending M p;
    }) h

-- How a caller goes through the words of a pair by next word alone.
module _ (M : Matter) (p : Pair) where
  before_all : (w : Word) → Memᴰ w (pair_words M p) → before [] w ≡ true
  unfolding before
  before_all w m = first_lower 0 (length w) (lex_less [] w) (pair_words_out M p w m).0.some

  -- begun with the empty word it is the first of all
  pub first_after_start : (f : Word → Bool) → first_after M p f [] ≡ first_by f (pair_words M p)
  first_after_start f = find_same (λ v. before [] v && f v) f (pair_words M p) (λ v m. rw (before_all v m))

  pub first_after_none : (f : Word → Bool) (w : Word) → next_word M p w ≡ none → first_after M p f w ≡ none
  unfolding next_word
  first_after_none f w e = find_none_of (λ v. before w v && f v) (pair_words M p) (λ v m. rw (find_none (before w) (pair_words M p) e m))

  pub first_after_here : (f : Word → Bool) (w v : Word) → next_word M p w ≡ some v → f v ≡ true → first_after M p f w ≡ some v
  unfolding next_word
  first_after_here f w v e h = find_and (before w) f (pair_words M p) e h

  -- a next word that fails the test may be passed over
  after_same : (w v : Word) → next_word M p w ≡ some v → (x : Word) → Memᴰ x (pair_words M p) → (x ≡ v → ⊥) → before w x ≡ before v x
  after_same w v e x m d =
      let r = next_finds M p w in
      let k = pair_words_out M p x m in
      by_test (before w x)
      (λ h. ⊎_elim
      (λ (q : v ≡ x). absurd (d (sym q)))
      (λ (q : before v x ≡ true). h ∙ sym q)
      (r.least v e x (record { fits = k.0; held = k.1; after = h })))
      (λ h. by_test (before v x) (λ q. both (before_transitive w v x (r.found v e).after q) h) (λ q. h ∙ sym q))

  pub first_after_next : (f : Word → Bool) (w v : Word) → next_word M p w ≡ some v → f v ≡ false → first_after M p f w ≡ first_after M p f v
  first_after_next f w v e h =
      find_same (λ x. before w x && f x) (λ x. before v x && f x) (pair_words M p)
      (λ x m. by_test (f x)
      (λ k. rw (after_same w v e x m (λ q. both k (ap f q ∙ h))))
      (λ k. and_false (before w x) k ∙ sym (and_false (before v x) k)))

  -- and the words that are left grow fewer
  pub words_left_fall : (w v : Word) → next_word M p w ≡ some v → words_left M p v < words_left M p w
  unfolding words_left
  words_left_fall w v e =
      let r = (next_finds M p w).found v e in
      filter_strictly (before v) (before w) (pair_words M p)
      (λ x m h. before_transitive w v x r.after h)
      (pair_words_in M p v r.fits r.held) (before_irreflexive v) r.after

  -- the first word of the pair is the next after the empty word, and it has no word exactly where there is none
  pub first_word : next_word M p [] ≡ first_element (pair_words M p)
  unfolding next_word
  first_word = first_head (before []) (pair_words M p) before_all
    where
      first_head : (q : Word → Bool) (l : List Word) → ((x : Word) → Memᴰ x l → q x ≡ true) → first_by q l ≡ first_element l
      first_head q [] f = unfold first_by in refl
      first_head q (x ∷ l) f = unfold first_by in rw (f x (Memᴰ.head refl), first_by)
