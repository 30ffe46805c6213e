-- A path is a walk: backwards over a word, a pair that the row lacks has no walk, and so no path. Assumes nothing.
use Rattle.std.proofs.Common.{◌≡◌, ℕ, suc, ◌+◌, ◌-◌, ◌<◌, ◌≤◌, true, false, List, [], ◌∷◌, get_or, drop}
use Rattle.std.proofs.Common.{sym, ap, ◌∙◌, arith, drop_of_length-le, drop-cons, get_or-take, bit_or}
use Rattle.std.proofs.Math.Logic.{by_cases}
use Rattle.std.proofs.Math.Decide.{ℕ_discrete}
use Rattle.lists.proofs.Cases.{by_test, both, or_left, or_right}
use Rattle.masks.specs.promises.Mask.{test_bit}
use Rattle.masks.specs.promises.Table.{no_row, mask_in}
use Rattle.masks.specs.declared.Row.{Row}
use Rattle.masks.specs.declared.Table.{Table}
use Rattle.masks.proofs.BitLaws.{test_or}
use Rattle.rebac.specs.Matter.{pair}
use Rattle.rebac.specs.Paths.{Walk, has}
use Rattle.rebac.proofs.Reach.{has_walk}
use Rattle.search.specs.Word.{symbols_in}
use Rattle.search.specs.declared.word.Word.{Word}
use Rattle.search.specs.promises.WordValues.{Short}
use Rattle.search.specs.promises.PairSearch.{table_graph}
use Rattle.search.specs.promises.WalkPairs.{StepsBack, CoversPairs}
use Rattle.search.proofs.SearchLaws.{symbols_length, short_fits}

-- one party more: the symbol leads to it and its ends are added, or the symbol does not
module _ (from : Row) (s : ℕ) (row : Row) (mask k : ℕ) (h : StepsBack from s row mask k) where
  pub steps_with : StepsBack from s row (bit_or mask (mask_in row k)) (k + 1)
  steps_with x v l j e =
      let o = sym (test_or mask (mask_in row k) v) ∙ e in
      by_cases (ℕ_discrete x k)
      (λ q. rw q (or_right (test_bit mask v) (test_bit (mask_in row k) v) o))
      (λ q. h x v (omega (arith, q)) j (or_left (test_bit mask v) (test_bit (mask_in row k) v) o))

  pub steps_without : test_bit (mask_in from k) s ≡ false → StepsBack from s row mask (k + 1)
  steps_without z x v l j e = by_cases (ℕ_discrete x k) (λ q. both (rw q at j) z) (λ q. h x v (omega (arith, q)) j e)

-- no walk along the word leads from a party to an end that the row lacks for it
abbrev pub NoWalks : ℕ → Table → List ℕ → Row → Type 0
NoWalks n t w row =
    (u v : ℕ) → u < n → test_bit (mask_in row u) v ≡ false → (via : List ℕ) → Walk (table_graph n t) u via w v → ⊥

module _ (n : ℕ) (t : Table) where
  -- along no symbol each party walks to itself alone
  pub walks_end : (row : Row) → ((u : ℕ) → u < n → test_bit (mask_in row u) u ≡ true) → NoWalks n t [] row
  walks_end row h u v l e [] k = both (h u l) (rw (← k) at e)
  walks_end row h u v l e (c ∷ via) k = k

  pub walks_back : (s : ℕ) (w : List ℕ) (row back : Row) → NoWalks n t w row
      → ((u : ℕ) → u < n → StepsBack (get_or t.rows u no_row) s row (mask_in back u) n) → NoWalks n t (s ∷ w) back
  walks_back s w row back h b u v l e [] k = k
  walks_back s w row back h b u v l e (c ∷ via) k = h c v k.0 (b u l c v k.0 k.1 e) via k.2

  pub walks_cover : (w : List ℕ) (row : Row) → NoWalks n t w row → CoversPairs n t w row
  walks_cover w row h u v l e =
      by_test (has (table_graph n t) (pair u v) w)
      (λ y. let r = has_walk (table_graph n t) (pair u v) w y in absurd (h u v l e r.0 r.1.walk))
      (λ z. z)

-- the symbols of a word from its end on, and from one place earlier
module _ {w : Word} (s : Short w) where
  pub symbols_end : drop w.len (symbols_in w) ≡ []
  symbols_end = drop_of_length-le (symbols_in w) {i = w.len} (omega (arith, symbols_length w (short_fits s)))

  pub symbols_back_lem : (at : ℕ) → 0 < at → at ≤ w.len
      → drop (at - 1) (symbols_in w) ≡ get_or w.symbols (at - 1) 0 ∷ drop at (symbols_in w)
  symbols_back_lem at h l =
      let e : suc (at - 1) ≡ at = omega arith in
      drop-cons (symbols_in w) (at - 1) 0 (omega (arith, symbols_length w (short_fits s)))
      ∙ ap (λ (x : ℕ). x ∷ drop (suc (at - 1)) (symbols_in w)) (get_or-take w.len w.symbols (at - 1) 0 (omega arith))
      ∙ ap (λ (i : ℕ). get_or w.symbols (at - 1) 0 ∷ drop i (symbols_in w)) e
