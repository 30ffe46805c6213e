-- The listed words are the words of 1 to d symbols of the alphabet, each once, in word order: by induction on the length.
use Rattle.std.proofs.Common.{◌≡◌, refl, sym, ap, ◌∙◌, List, [], ◌∷◌, map, ℕ, zero, suc, arith, ltb, length}
use mathlib.Core.List.Memᴰ
use mathlib.Core.List.{Memᴰ}
use Rattle.std.proofs.Math.Decide.{ℕ_discrete}
use Rattle.lists.specs.Order.{Ascending, Distinct}
use Rattle.lists.proofs.Cases.{by_mem, by_append}
use Rattle.lists.proofs.ListLaws.{flat_in, flat_out, map_in, map_out}
use Rattle.lists.proofs.OrderLaws.{ascending_append, ascending_by, ascending_distinct}
use Rattle.rebac.specs.Words.{Word, lex_less, before, words_of_length, words_up_to, Over, IsWord}
use Rattle.rebac.proofs.LexOrder.{first_lower, first_same, before_irreflexive, flat_ascending}

module _ (al : List ℕ) where
  pub length_in : (w : Word) → Over al w → Memᴰ w (words_of_length al (length w))
  unfolding words_of_length
  length_in [] o = Memᴰ.head refl
  length_in (s ∷ w) o = flat_in _ al (o s (Memᴰ.head refl)) (map_in (λ v. s ∷ v) _ (length_in w (λ x m. o x (Memᴰ.tail m))))

  pub length_out : (k : ℕ) {w : Word} → Memᴰ w (words_of_length al k) → Over al w × (length w ≡ k)
  unfolding words_of_length
  length_out zero m = by_mem m (λ e. rw e (λ x n. absurd (Memᴰ.not-nil n), refl)) (λ n. absurd (Memᴰ.not-nil n))
  length_out (suc k) m =
      let r = flat_out (λ s. map (λ w. s ∷ w) (words_of_length al k)) al m in
      let t = map_out (λ w. r.0 ∷ w) (words_of_length al k) r.2 in
      let i = length_out k t.1 in
      rw t.2 (λ x n. by_mem n (λ e. rw e r.1) (λ j. i.0 x j), ap suc i.1)

  pub words_listed : (d : ℕ) (w : Word) → IsWord al d w → Memᴰ w (words_up_to al d)
  unfolding words_up_to
  words_listed zero w r = absurd (omega (arith, r.some, r.short))
  words_listed (suc k) w r = go (ℕ_discrete (length w) (suc k)) (words_listed k w)
    where
      go : Dec (length w ≡ suc k) → (IsWord al k w → Memᴰ w (words_up_to al k)) → Memᴰ w (words_up_to al (suc k))
      go (yes e) ih = Memᴰ.append_right (words_up_to al k) (rw (← e) (length_in w r.over))
      go (no n) ih =
          let shorter : IsWord al k w = record { over = r.over; some = r.some; short = omega (arith, n, r.short) } in
          Memᴰ.append_left (words_of_length al (suc k)) (ih shorter)

  pub listed_words : (d : ℕ) (w : Word) → Memᴰ w (words_up_to al d) → IsWord al d w
  unfolding words_up_to
  listed_words zero w m = absurd (Memᴰ.not-nil m)
  listed_words (suc k) w m =
      by_append (words_up_to al k) m
      (λ n. let r = listed_words k w n in record { over = r.over; some = r.some; short = omega (arith, r.short) })
      (λ n. let r = length_out (suc k) n in record { over = r.0; some = omega (arith, r.1); short = omega (arith, r.1) })

  module _ (up : Ascending ltb al) where
    pub length_ascending : (k : ℕ) → Ascending lex_less (words_of_length al k)
    unfolding words_of_length
    length_ascending zero = (λ y n. absurd (Memᴰ.not-nil n), tt)
    length_ascending (suc k) = flat_ascending (λ s. words_of_length al k) al up (λ s. length_ascending k)

    pub words_ascending : (d : ℕ) → Ascending before (words_up_to al d)
    unfolding words_up_to before
    words_ascending zero = tt
    words_ascending (suc k) =
        let size : (w : Word) → Memᴰ w (words_of_length al (suc k)) → length w ≡ suc k = λ w m. (length_out (suc k) m).1 in
        ascending_append before (words_up_to al k) (words_of_length al (suc k)) (words_ascending k)
        (ascending_by lex_less before (words_of_length al (suc k))
        (λ x y m n e. first_same (length x) (length y) (lex_less x y) (size x m ∙ sym (size y n)) e) (length_ascending (suc k)))
        (λ x y m n. first_lower (length x) (length y) (lex_less x y) (omega (arith, (listed_words k x m).short, size y n)))

    pub words_distinct : (d : ℕ) → Distinct (words_up_to al d)
    words_distinct d = ascending_distinct before before_irreflexive (words_up_to al d) (words_ascending d)
