-- The first word of a graph that tells one pair from another is the first that does so in letters, read as symbols. A telling word has
-- a word of letters that is no greater and holds alike, and reading letters as symbols keeps their order.
use Rattle.std.proofs.Common.{◌≡◌, refl, sym, ap, ◌∙◌, ◌⊎◌, inl, inr, ⊎_elim, Bool, true, false}
use Rattle.std.proofs.Common.{List, [], ◌∷◌, ℕ, zero, suc, ◌<◌, arith, ltb, length}
use Rattle.std.proofs.Math.Logic.{by_cases}
use mathlib.Core.List.Memᴰ
use mathlib.Core.List.{Memᴰ}
use Rattle.std.proofs.Math.Option.{some, map}
use Rattle.std.proofs.Math.Decide.{ℕ_discrete}
use Rattle.lists.specs.Lists.{first_by, range}
use Rattle.lists.specs.Order.{Ascending}
use Rattle.lists.proofs.Cases.{by_test, by_found, by_mem, both}
use Rattle.lists.proofs.ListLaws.{find_none, find_none_of, find_some, find_in, range_in, range_out}
use Rattle.lists.proofs.OrderLaws.{first_least, length_map, range_ascending}
use Rattle.rebac.specs.Matter.{Pair, IsPair}
use Rattle.rebac.specs.Words.{Word, lex_less, words_of_length, Over}
use Rattle.rebac.specs.Paths.{Graph}
use Rattle.rebac.specs.promises.Telling.{tells, first_telling, first_telling_longer}
use Rattle.rebac.proofs.LexOrder.{by_first, first_lower, first_same, lex_irreflexive, lex_transitive}
use Rattle.rebac.proofs.WordsLaws.{length_in, length_out, length_ascending}
use Rattle.rebac.proofs.AlikeLaws.{HoldAlike, InUse, alike_length, tells_alike, tells_has, has_in_use}
use Rattle.letters.specs.promises.Letters.{letter_symbol, in_symbols, LeastLetter, Lettered}

-- The first of one list that passes is read off the first of another, where the reading keeps the order, those that pass are read as
-- ones that pass, and each that passes in the one list has one in the other that is read as no greater.
module _ {A B : Type 0} (R : A → A → Bool) (Q : B → B → Bool) (f : B → A) (p : A → Bool) (r : B → Bool) (l : List A) (m : List B)
    (irreflexive : (x : A) → R x x ≡ false)
    (transitive : (x y z : A) → R x y ≡ true → R y z ≡ true → R x z ≡ true)
    (up : Ascending R l) (upward : Ascending Q m)
    (read : (y : B) → Memᴰ y m → r y ≡ true → Memᴰ (f y) l × (p (f y) ≡ true))
    (written : (x : A) → Memᴰ x l → p x ≡ true → (y : B) × Memᴰ y m × (r y ≡ true) × ((f y ≡ x) ⊎ (R (f y) x ≡ true)))
    (keeps : (y z : B) → Memᴰ y m → Memᴰ z m → Q y z ≡ true → R (f y) (f z) ≡ true) where
  no_greater : (x y z : A) → (x ≡ y) ⊎ (R x y ≡ true) → (y ≡ z) ⊎ (R y z ≡ true) → (x ≡ z) ⊎ (R x z ≡ true)
  no_greater x y z h k =
      ⊎_elim
      (λ (e : x ≡ y). rw e k)
      (λ (a : R x y ≡ true). inr (⊎_elim (λ (e : y ≡ z). rw (← e) a) (λ (b : R y z ≡ true). transitive x y z a b) k))
      h

  no_other : (x y : A) → (x ≡ y) ⊎ (R x y ≡ true) → (y ≡ x) ⊎ (R y x ≡ true) → x ≡ y
  no_other x y h k =
      ⊎_elim
      (λ (e : x ≡ y). e)
      (λ (a : R x y ≡ true). ⊎_elim (λ (e : y ≡ x). sym e) (λ (b : R y x ≡ true). both (transitive x y x a b) (irreflexive x)) k)
      h

  first_read : first_by p l ≡ map f (first_by r m)
  first_read =
      by_found (first_by r m)
      (λ e. find_none_of p l (λ x n. by_test (p x)
      (λ h. let y = written x n h in both y.2 (find_none r m e y.1))
      (λ h. h))
      ∙ ap (map f) (sym e))
      (λ y e.
      let j = find_in r m e in
      let k = read y j (find_some r m e).here in
      by_found (first_by p l)
      (λ z. both k.1 (find_none p l z k.0))
      (λ x z.
      let v = written x (find_in p l z) (find_some p l z).here in
      let low : (f y ≡ f v.0) ⊎ (R (f y) (f v.0) ≡ true) =
      ⊎_elim
      (λ (q : y ≡ v.0). inl (ap f q))
      (λ (q : Q y v.0 ≡ true). inr (keeps y v.0 j v.1 q))
      (first_least Q r m upward e v.1 v.2) in
      let same : x ≡ f y = no_other x (f y) (first_least R p l up z k.0 k.1) (no_greater (f y) (f v.0) x low v.3) in
      z ∙ ap some same ∙ ap (map f) (sym e)))

module _ (g t : Graph ℕ) (symbols : List ℕ) (base end : ℕ) (k : Lettered g t symbols base end) where
  -- a word of letters below the base holds as it is read
  symbols_alike : (v : Word) → Over (range base) v → HoldAlike g t (in_symbols symbols v) v
  symbols_alike [] o = tt
  symbols_alike (i ∷ v) o = (
    λ x y a b. sym (k.plain x y i a b (range_out base (o i (Memᴰ.head refl)))),
    symbols_alike v (λ j m. o j (Memᴰ.tail m)),
  )

  -- reading keeps the order
  symbols_less : (v u : Word) → Over (range base) v → Over (range base) u
      → lex_less v u ≡ true → lex_less (in_symbols symbols v) (in_symbols symbols u) ≡ true
  unfolding lex_less
  symbols_less [] [] a b h = h
  symbols_less [] (j ∷ u) a b h = refl
  symbols_less (i ∷ v) [] a b h = h
  symbols_less (i ∷ v) (j ∷ u) a b h =
      ⊎_elim
      (λ (l : i < j). first_lower _ _ _ (k.ascending i j l (range_out base (b j (Memᴰ.head refl)))))
      (λ (e : (i ≡ j) × (lex_less v u ≡ true)). first_same _ _ _ (ap (letter_symbol symbols) e.0)
      (symbols_less v u (λ x m. a x (Memᴰ.tail m)) (λ x m. b x (Memᴰ.tail m)) e.1))
      (by_first i j (lex_less v u) h)

  -- a word of letters in which a word is written: no greater, and it holds alike
  record Written (w v : Word) : Type 0 where
    over : Over (range base) v
    alike : HoldAlike g t w v
    least : (in_symbols symbols v ≡ w) ⊎ (lex_less (in_symbols symbols v) w ≡ true)

  written_cons : (s : ℕ) (w : Word) (i : ℕ) (v : Word) → LeastLetter g symbols base s i → Written w v → Written (s ∷ w) (i ∷ v)
  unfolding lex_less
  written_cons s w i v a r = record {
    over = λ x m. by_mem m (λ e. rw e (range_in base i a.low)) (λ n. r.over x n);
    alike = (λ x y c d. sym (a.same x y c d) ∙ sym (k.plain x y i c d a.low), r.alike);
    least =
        by_cases (ℕ_discrete (letter_symbol symbols i) s)
        (λ e. ⊎_elim
        (λ (z : in_symbols symbols v ≡ w). inl (cc))
        (λ (z : lex_less (in_symbols symbols v) w ≡ true). inr (first_same (letter_symbol symbols i) s _ e z))
        r.least)
        (λ n. inr (first_lower (letter_symbol symbols i) s _ (omega (arith, a.least, n))));
  }

  written : (w : Word) → ((s : ℕ) → Memᴰ s w → InUse g s) → (v : Word) × Written w v
  written [] f = ([], record { over = λ x m. absurd (Memᴰ.not-nil m); alike = tt; least = inl refl })
  written (s ∷ w) f =
      let u = f s (Memᴰ.head refl) in
      let i = k.stands u.from u.to s u.start u.end u.holds in
      let r = written w (λ x m. f x (Memᴰ.tail m)) in
      (i.0 ∷ r.0, written_cons s w i.0 r.0 i.1 r.1)

  -- two pairs, and an alphabet in order with every symbol that holds for some parties
  module _ (p q : Pair) (hp : IsPair g.parties p) (hq : IsPair g.parties q) (al : List ℕ) (up : Ascending ltb al)
      (listed : (u v s : ℕ) → u < g.parties → v < g.parties → g.edge u v s ≡ true → Memᴰ s al) where
    tells_in_symbols : (v : Word) → Over (range base) v → tells t p q v ≡ tells g p q (in_symbols symbols v)
    tells_in_symbols v o = sym (tells_alike g t k.parties p q hp.first hq.first (in_symbols symbols v) v (symbols_alike v o))

    in_use : (w : Word) → tells g p q w ≡ true → (s : ℕ) → Memᴰ s w → InUse g s
    in_use w e = has_in_use g p hp.first w (tells_has g p q w e)

    over_alphabet : (w : Word) → tells g p q w ≡ true → Over al w
    over_alphabet w e s m = let u = in_use w e s m in listed u.from u.to s u.start u.end u.holds

    -- the first telling word of n symbols, and of more
    pub telling_in_symbols : (n : ℕ) → first_telling g p q al n ≡ map (in_symbols symbols) (first_telling t p q (range base) n)
    unfolding first_telling
    telling_in_symbols n =
        first_read lex_less lex_less (in_symbols symbols) (tells g p q) (tells t p q) (words_of_length al n)
        (words_of_length (range base) n)
        lex_irreflexive lex_transitive (length_ascending al up n) (length_ascending (range base) (range_ascending base) n)
        (λ v m e.
        let o = length_out (range base) n m in
        let z : tells g p q (in_symbols symbols v) ≡ true = sym (tells_in_symbols v o.0) ∙ e in
        let size : length (in_symbols symbols v) ≡ n = length_map (letter_symbol symbols) v ∙ o.1 in
        (rw size at (length_in al (in_symbols symbols v) (over_alphabet (in_symbols symbols v) z)), z))
        (λ w m e.
        let r = written w (in_use w e) in
        let size : length r.0 ≡ n = sym (alike_length g t w r.0 r.1.alike) ∙ (length_out al n m).1 in
        let z : tells t p q r.0 ≡ true =
        sym (tells_alike g t k.parties p q hp.first hq.first w r.0 r.1.alike) ∙ e in
        (r.0, rw size at (length_in (range base) r.0 r.1.over), z, r.1.least))
        (λ v u m j. symbols_less v u (length_out (range base) n m).0 (length_out (range base) n j).0)

    pub telling_longer_in_symbols : (n j : ℕ)
        → first_telling_longer g p q al n j ≡ map (in_symbols symbols) (first_telling_longer t p q (range base) n j)
    unfolding first_telling_longer
    telling_longer_in_symbols n zero = refl
    telling_longer_in_symbols n (suc j) =
        rw (telling_in_symbols (suc n), telling_longer_in_symbols (suc n) j)
        (by_found (first_telling t p q (range base) (suc n)) (λ e. rw e) (λ v e. rw e))
