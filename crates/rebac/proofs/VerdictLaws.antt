-- What each verdict says: by the first pair that spoils it, and by that pair's words and first rival.
use Rattle.std.proofs.Common.{◌≡◌, refl, sym, true, false, not, List, [], ◌∷◌, ◌≤◌, leb-true}
use Rattle.std.proofs.lemmas.Bool.{not-true, not-false}
use mathlib.Core.List.Memᴰ
use mathlib.Core.List.{Memᴰ}
use Rattle.std.proofs.Math.Option.{Option, none, some}
use Rattle.lists.specs.Lists.{first_by}
use Rattle.lists.proofs.Cases.{by_test, by_found, clash, both, and_false, and_left, and_right}
use Rattle.lists.proofs.ListLaws.{all_in, find_none, find_none_of, find_some, First}
use Rattle.rebac.specs.Rules.{Problem}
use Rattle.rebac.specs.Verdict.{Verdict, convertible, no_word, rivalled, words_of, covers, rival}
use Rattle.rebac.specs.Verdict.{ruling, judge, is_convertible, spoils, verdict}
use Rattle.rebac.proofs.MiningLaws.{words_out}

module _ {P W : Type 0} (S : Problem P W) where
  ruling_good : (p : P) {ws : List W} {w : W} → Memᴰ w ws → {o : Option P} → o ≡ none → ruling S p ws o ≡ convertible
  ruling_good p {ws = []} m e = absurd (Memᴰ.not-nil m)
  ruling_good p {ws = v ∷ vs} m e = rw e

  ruling_none : (p : P) (ws : List W) (o : Option P) → ruling S p ws o ≡ convertible → o ≡ none
  ruling_none p [] o e = cc
  ruling_none p (w ∷ ws) none e = refl
  ruling_none p (w ∷ ws) (some q) e = cc

  ruling_word : (p : P) (ws : List W) (o : Option P) → ruling S p ws o ≡ convertible → (w : W) × Memᴰ w ws
  ruling_word p [] o e = clash (cc e)
  ruling_word p (w ∷ ws) o e = (w, Memᴰ.head refl)

  -- a pair is no hindrance exactly where it has a word and no rival
  pub judge_in : (p : P) {w : W} → Memᴰ w (words_of S p)
      → ((q : P) → Memᴰ q S.pairs → rival S p q ≡ false) → judge S p ≡ convertible
  unfolding judge
  judge_in p m f = ruling_good p m (find_none_of (rival S p) S.pairs f)

  pub judge_word : (p : P) → judge S p ≡ convertible → (w : W) × Memᴰ w (words_of S p)
  unfolding judge
  judge_word p e = ruling_word p (words_of S p) (first_by (rival S p) S.pairs) e

  pub judge_no_rival : (p : P) → judge S p ≡ convertible → (q : P) → Memᴰ q S.pairs → rival S p q ≡ false
  unfolding judge
  judge_no_rival p e q m = find_none (rival S p) S.pairs (ruling_none p (words_of S p) (first_by (rival S p) S.pairs) e) m

  pub judge_not_covered : (p : P) → judge S p ≡ convertible
      → (q : P) → Memᴰ q S.pairs → S.permitted q ≡ false → covers S p q ≡ false
  unfolding rival
  judge_not_covered p e q m u = rw u at (judge_no_rival p e q m)

  pub is_convertible_lem : (v : Verdict P) → is_convertible S v ≡ true → v ≡ convertible
  is_convertible_lem convertible e = refl
  is_convertible_lem (no_word p) e = clash (sym e)
  is_convertible_lem (rivalled p q) e = clash (sym e)

  -- convertible: every permitted pair has a word and no rival
  pub verdict_in_lem : ((p : P) → Memᴰ p S.pairs → S.permitted p ≡ true → judge S p ≡ convertible) → verdict S ≡ convertible
  unfolding verdict spoils
  verdict_in_lem f = rw (find_none_of (spoils S) S.pairs (λ p m. by_test (S.permitted p) (λ e. rw (e, f p m e)) (λ e. rw e)))

  pub verdict_out : verdict S ≡ convertible → (p : P) → Memᴰ p S.pairs → S.permitted p ≡ true → judge S p ≡ convertible
  unfolding verdict spoils
  verdict_out v p m h =
      by_found (first_by (spoils S) S.pairs)
      (λ e. is_convertible_lem (judge S p) (not-false _ (rw h at (find_none _ _ e m))))
      (λ x e. both (find_some _ _ e).here (and_false (S.permitted x) (rw (rw e at v))))

  -- not convertible: the pair is the first permitted one that has no word or has a rival
  pub record NoWord (p : P) : Type 0 where
    pub first : First (spoils S) S.pairs p
    pub permit : S.permitted p ≡ true
    pub empty : words_of S p ≡ []

  pub record Rivalled (p q : P) : Type 0 where
    pub first : First (spoils S) S.pairs p
    pub permit : S.permitted p ≡ true
    pub word : (w : W) × Memᴰ w (words_of S p)
    -- the first rival, an unpermitted pair
    pub first_rival : First (rival S p) S.pairs q
    pub unpermitted : S.permitted q ≡ false
    -- which has each word of p
    pub shared : (w : W) → Memᴰ w (words_of S p) → (1 ≤ S.score p w) × (S.score p w ≤ S.score q w)

  ruling_no_word : (x p : P) (ws : List W) (o : Option P) → ruling S x ws o ≡ no_word p → (x ≡ p) × (ws ≡ [])
  ruling_no_word x p [] o e = (cc, refl)
  ruling_no_word x p (w ∷ ws) none e = clash (cc e)
  ruling_no_word x p (w ∷ ws) (some q) e = clash (cc e)

  record RulingRival (x p q : P) (ws : List W) (o : Option P) : Type 0 where
    same : x ≡ p
    found : o ≡ some q
    word : (w : W) × Memᴰ w ws

  ruling_rival : (x p q : P) (ws : List W) (o : Option P) → ruling S x ws o ≡ rivalled p q → RulingRival x p q ws o
  ruling_rival x p q [] o e = clash (cc e)
  ruling_rival x p q (w ∷ ws) none e = clash (cc e)
  ruling_rival x p q (w ∷ ws) (some r) e = record { same = cc; found = cc; word = (w, Memᴰ.head refl) }

  spoiler_permitted : (p : P) → spoils S p ≡ true → S.permitted p ≡ true
  unfolding spoils
  spoiler_permitted p e = and_left (S.permitted p) _ e

  pub verdict_no_word : (p : P) → verdict S ≡ no_word p → NoWord p
  unfolding verdict judge
  verdict_no_word p v =
      by_found (first_by (spoils S) S.pairs)
      (λ e. clash (cc (rw e at v)))
      (λ x e.
      let r = ruling_no_word x p (words_of S x) (first_by (rival S x) S.pairs) (rw e at v) in
      let f : First (spoils S) S.pairs p = rw r.0 at (find_some _ _ e) in
      record { first = f; permit = spoiler_permitted p f.here; empty = rw r.0 at r.1 })

  pub verdict_rival : (p q : P) → verdict S ≡ rivalled p q → Rivalled p q
  unfolding verdict judge rival covers
  verdict_rival p q v =
      by_found (first_by (spoils S) S.pairs)
      (λ e. clash (cc (rw e at v)))
      (λ x e.
      let r = ruling_rival x p q (words_of S x) (first_by (rival S x) S.pairs) (rw e at v) in
      let z : x ≡ p = r.same in
      let f : First (spoils S) S.pairs p = rw z at (find_some _ _ e) in
      let o : first_by (rival S p) S.pairs ≡ some q = rw z at r.found in
      let k : First (rival S p) S.pairs q = find_some _ _ o in
      let h : rival S p q ≡ true = k.here in
      record {
        first = f;
        permit = spoiler_permitted p f.here;
        word = rw z at r.word;
        first_rival = k;
        unpermitted = not-true (S.permitted q) (and_left (not (S.permitted q)) _ h);
        shared = λ w m. ((words_out S p m).1, leb-true _ _ (all_in _ (words_of S p) (and_right (not (S.permitted q)) _ h) m));
      })
