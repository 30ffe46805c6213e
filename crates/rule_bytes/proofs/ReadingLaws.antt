-- A part at a place of the bytes, as the check goes over it: a word by its length byte, many parts one by one. Assumes nothing.
use Rattle.std.proofs.Common.{◌≡◌, refl, ◌∙◌, true, false, ◌&&◌, List, [], ◌∷◌, ℕ, zero, suc, ◌+◌, ◌-◌, ◌≤◌, ◌<◌, arith}
use Rattle.std.proofs.Common.{add-one, length, take, drop, get_or, length-drop, drop_of_length-le, drop-cons, drop-drop}
use Rattle.std.proofs.Common.{length-take-le, leb, eqb, leb-true, le-leb, eqb-true, Some, None, MatchOption}
use Rattle.std.proofs.lemmas.Bool.{lt-leb, eqb-false}
use Rattle.std.proofs.Math.Option.{Option, none}
use Rattle.lists.specs.Lists.{all_of}
use Rattle.std.specs.List.{slice_range}
use Rattle.lists.proofs.Cases.{by_test, and_false}
use Rattle.rebac.specs.Options.{given}
use Rattle.rebac.specs.promises.Options.{is_some}
use Rattle.fields.specs.Numbers.{u16_at}
use Rattle.rule_bytes.specs.ListBytes.{Parsed, parsed, and_then, whole, decode_count, decode_many, legal_word, decode_word}
use Rattle.rule_bytes.specs.ListBytes.{decode_term, decode_terms, decode_list}
use Rattle.graph.specs.Legal.{legal_symbol}
use Rattle.std.specs.Option.{option_eq}
use Rattle.std.specs.Prelude.{Option as Passed}
use Rattle.rule_bytes.specs.promises.Reading.{Passes, PassesMany}

-- a range of k bytes
pub range_is : (b : List ℕ) (from k : ℕ) → slice_range b from (from + k) ≡ take k (drop from b)
range_is b from k = let e : from + k - from ≡ k = omega arith in rw e

-- the bytes from a place on, after k of them
pub drop_on : (b : List ℕ) (at k : ℕ) → drop k (drop at b) ≡ drop (at + k) b
drop_on b at k = drop-drop k at b

module _ (labels language longest : ℕ) where
  -- what makes a word legal or not
  empty_bad : (k : ℕ) (r : List ℕ) → k ≡ 0 → legal_word labels language longest (take k r) ≡ false
  unfolding legal_word
  empty_bad k r e = rw e

  long_bad : (k : ℕ) (r : List ℕ) → k ≤ length r → longest < k → legal_word labels language longest (take k r) ≡ false
  unfolding legal_word
  long_bad k r h l = rw (length-take-le k r h, lt-leb k longest l) (and_false (leb 1 k) refl)

  symbols_bad : (w : List ℕ) → all_of (legal_symbol labels language) w ≡ false → legal_word labels language longest w ≡ false
  unfolding legal_word
  symbols_bad w e = rw e (and_false (leb 1 (length w)) (and_false (leb (length w) longest) refl))

  all_good : (k : ℕ) (r : List ℕ) → k ≤ length r → 1 ≤ k → k ≤ longest → all_of (legal_symbol labels language) (take k r) ≡ true
      → legal_word labels language longest (take k r) ≡ true
  unfolding legal_word
  all_good k r h one l e = rw (length-take-le k r h, le-leb 1 k one, le-leb k longest l) e

  module _ (b : List ℕ) (at : ℕ) where
    pub word_end : at ≡ length b → decode_word labels language longest (drop at b) ≡ none
    unfolding decode_word
    word_end e = rw (drop_of_length-le b {i = at} (omega arith))

    -- k: the length byte
    module _ (k : ℕ) (here : at < length b) (size : k ≡ get_or b at 0) where
      word_here :
          decode_word labels language longest (drop at b)
          ≡ given (leb k (length (drop (at + 1) b)) && legal_word labels language longest (take k (drop (at + 1) b)))
          (parsed (take k (drop (at + 1) b)) (drop k (drop (at + 1) b)))
      unfolding decode_word
      word_here = rw (drop-cons b at 0 here, ← size, add-one at)

      word_bad :
          (k ≤ length (drop (at + 1) b) → legal_word labels language longest (take k (drop (at + 1) b)) ≡ false)
          → decode_word labels language longest (drop at b) ≡ none
      word_bad f = word_here ∙ by_test (leb k (length (drop (at + 1) b))) (λ e. rw (e, f (leb-true _ _ e))) (λ e. rw e)

      pub word_empty : k ≡ 0 → decode_word labels language longest (drop at b) ≡ none
      word_empty e = word_bad (λ h. empty_bad k _ e)

      pub word_long : longest < k → decode_word labels language longest (drop at b) ≡ none
      word_long l = word_bad (λ h. long_bad k _ h l)

      pub word_cut : length b - (at + 1) < k → decode_word labels language longest (drop at b) ≡ none
      word_cut l = word_bad (λ h. absurd (omega (arith, length-drop (at + 1) b)))

      pub word_wrong :
          all_of (legal_symbol labels language) (take k (drop (at + 1) b)) ≡ false
          → decode_word labels language longest (drop at b) ≡ none
      word_wrong e = word_bad (λ h. symbols_bad _ e)

      pub word_good :
          k ≤ length b - (at + 1) → 1 ≤ k → k ≤ longest → all_of (legal_symbol labels language) (take k (drop (at + 1) b)) ≡ true
          → decode_word labels language longest (drop at b) ≡ parsed (take k (drop (at + 1) b)) (drop (at + 1 + k) b)
      word_good h one l e =
          let r : List ℕ = drop (at + 1) b in
          let m : k ≤ length r = omega (arith, length-drop (at + 1) b) in
          let g = all_good k r m one l e in
          word_here ∙ rw (le-leb k (length r) m, g, drop_on b (at + 1) k)

-- the ways in which the word at a place breaks the layout
pub ruleset word_breaks = (word_end, word_empty, word_long, word_cut, word_wrong, range_is)

-- the checks from one place on are the check there and those from the place that it gives
pub many_from : (R : ℕ → Passed ℕ → Type 0) (n i at : ℕ) (o r : Passed ℕ) → i < n → R at o
    → MatchOption o (r ≡ None) (λ next. PassesMany R (n - (i + 1)) next r) → PassesMany R (n - i) at r
many_from R n i at o r h p rest = let e : n - i ≡ suc (n - (i + 1)) = omega arith in rw e (o, p, rest)

module _ {A : Type 0} (f : List ℕ → Option (Parsed A)) (b : List ℕ) {R : ℕ → Passed ℕ → Type 0}
    (one : (x : ℕ) (o : Passed ℕ) → x ≤ length b → R x o → Passes f b x o) where
  -- the rest of the parts passed, or one of them did not
  then_rest : (n at next : ℕ) (v : A) (r : Passed ℕ) → f (drop at b) ≡ parsed v (drop next b)
      → Passes (decode_many f n) b next r → Passes (decode_many f (suc n)) b at r
  unfolding decode_many
  then_rest n at next v (Some end) e h = (h.0, (v ∷ h.1.0, rw (e, h.1.1)))
  then_rest n at next v None e h = rw (e, h)

  -- parts that a check passes one after another are decoded one after another
  pub passes_many : (n at : ℕ) (r : Passed ℕ) → at ≤ length b → PassesMany R n at r → Passes (decode_many f n) b at r
  unfolding decode_many
  passes_many zero at r h e = rw e (h, ([], refl))
  passes_many (suc n) at r h (None, p, e) = rw (e, one at None h p)
  passes_many (suc n) at r h (Some next, p, rest) =
      let k = one at (Some next) h p in
      then_rest n at next k.1.0 r k.1.1 (passes_many n next r k.0 rest)

-- the count at a place
pub count_here : (b : List ℕ) (at : ℕ) → at + 1 < length b → decode_count (drop at b) ≡ parsed (u16_at b at) (drop (at + 2) b)
unfolding decode_count u16_at
count_here b at h =
    let e : at + 2 ≡ suc (suc at) = omega arith in
    rw (drop-cons b at 0 (omega arith), drop-cons b (suc at) 0 (omega arith), e, add-one at)

pub count_cut : (b : List ℕ) (at : ℕ) → length b - at < 2 → decode_count (drop at b) ≡ none
unfolding decode_count
count_cut b at h = short (drop at b) (omega (arith, length-drop at b))
  where
    short : (s : List ℕ) → length s < 2 → decode_count s ≡ none
    short [] l = unfold decode_count in refl
    short (x ∷ []) l = unfold decode_count in refl
    short (x ∷ y ∷ s) l = absurd (omega arith)

-- what one decoder passes another does that reads the same
pub passes_same :
    {A : Type 0} (f g : List ℕ → Option (Parsed A)) (b : List ℕ) (at from : ℕ) (r : Passed ℕ) → f (drop at b) ≡ g (drop from b)
    → Passes g b from r → Passes f b at r
passes_same f g b at from (Some next) e h = (h.0, (h.1.0, e ∙ h.1.1))
passes_same f g b at from None e h = e ∙ h

module _ (labels language longest : ℕ) (b : List ℕ) where
  module _ (at : ℕ) where
    pub term_cut : length b - at < 2 → decode_term labels language longest (drop at b) ≡ none
    unfolding decode_term
    term_cut h = rw (count_cut b at h)

    module _ (k : ℕ) (here : at + 1 < length b) (number : k ≡ u16_at b at) where
      pub term_empty : k ≡ 0 → decode_term labels language longest (drop at b) ≡ none
      unfolding decode_term
      term_empty e = rw (count_here b at here, ← number, e)

      pub term_here :
          (k ≡ 0 → ⊥)
          → decode_term labels language longest (drop at b) ≡ decode_many (decode_word labels language longest) k (drop (at + 2) b)
      unfolding decode_term
      term_here z = rw (count_here b at here, ← number, le-leb 1 k (omega (arith, z)))

  pub list_cut : length b < 2 → is_some (decode_list labels language longest b) ≡ false
  unfolding decode_list decode_terms
  list_cut h = rw (count_cut b 0 (omega arith))

  module _ (k : ℕ) (here : 1 < length b) (number : k ≡ u16_at b 0) where
    list_here : decode_list labels language longest b ≡ and_then (decode_many (decode_term labels language longest) k (drop 2 b)) whole
    unfolding decode_list decode_terms
    list_here = rw (count_here b 0 here, ← number)

    list_broken :
        decode_many (decode_term labels language longest) k (drop 2 b) ≡ none → is_some (decode_list labels language longest b) ≡ false
    list_broken e = rw (list_here, e)

    list_read :
        (v : List (List (List ℕ))) (end : ℕ) → end ≤ length b
        → decode_many (decode_term labels language longest) k (drop 2 b) ≡ parsed v (drop end b)
        → is_some (decode_list labels language longest b) ≡ eqb end (length b)
    list_read v end h e = rw (list_here, e) (by_test (eqb end (length b))
        (λ q. let z : end ≡ length b = eqb-true _ _ q in rw (q, drop_of_length-le b {i = end} (omega arith)))
        (λ q. let z : end ≡ length b → ⊥ = eqb-false _ _ q in rw (q, drop-cons b end 0 (omega (arith, z)))))

    -- a list is read where its terms pass to its end
    pub list_ends : (r : Passed ℕ) → Passes (decode_many (decode_term labels language longest) k) b 2 r
        → is_some (decode_list labels language longest b) ≡ option_eq eqb r (Some (length b))
    list_ends None e = list_broken e
    list_ends (Some end) h = list_read h.1.0 end h.0 h.1.1
