-- Marks set pair by pair: before number k they are those of the pairs that pass, from k on the old ones.
use Rattle.std.proofs.Common.{◌≡◌, refl, sym, ap, ◌∙◌, Bool, true, false, ◌&&◌, ◌||◌, [], ◌∷◌, ◌++◌, ℕ}
use Rattle.std.proofs.Common.{◌+◌, ◌*◌, ◌/◌, ◌%◌, ◌≤◌, arith, ltb, lt-ltb, le-ltb, ltb-true, ltb-false}
use Rattle.std.proofs.Math.Logic.{by_cases}
use Rattle.std.proofs.Math.Decide.{ℕ_discrete}
use Rattle.lists.specs.Lists.{any_of}
use Rattle.lists.proofs.Cases.{by_test, both, or_true, or_false}
use Rattle.lists.proofs.ListLaws.{any_append, any_one}
use Rattle.masks.specs.promises.Mask.{test_bit, with_bit}
use Rattle.masks.specs.promises.Table.{mask_in}
use Rattle.masks.specs.declared.Row.{Row}
use Rattle.masks.proofs.BitLaws.{test_with_same, test_with_other}
use Rattle.rebac.specs.Matter.{Pair, pair}
use Rattle.rebac.specs.Words.{Word}
use Rattle.rebac.specs.Rules.{RuleList, Term, meets, permits}
use Rattle.rebac.specs.Mining.{term_of}
use Rattle.rebac.specs.Existence.{plain_term}
use Rattle.rebac.proofs.MiningLaws.{term_owned}
use Rattle.graph.specs.declared.archive.Archive.{Archive}
use Rattle.graph.specs.Legal.{is_pair}
use Rattle.graph.proofs.LegalLaws.{pair_of}
use Rattle.rules.specs.promises.Meets.{meets_term}
use Rattle.mining.specs.promises.Building.{problem_in}
use Rattle.mining.specs.promises.Taking.{PairMarks}
use Rattle.mining.proofs.ArchiveLaws.{owned_met}

-- whether the row marks the pair
abbrev bit : Row → ℕ → ℕ → Bool
bit row x y = test_bit (mask_in row x) y

-- the pairs before number k are marked where they pass f, beside the old marks
pub record MarkedTo (f : ℕ → ℕ → Bool) (n : ℕ) (old row : Row) (k : ℕ) : Type 0 where
  pub bounded : n ≤ 32
  pub bits : (x y : ℕ) → bit row x y ≡ (bit old x y || (ltb (32 * x + y) k && (is_pair n x y && f x y)))

or_and : (b c d : Bool) → ((b && c) || (b && d)) ≡ (b && (c || d))
or_and true c d = refl
or_and false c d = refl

none_yet : (b c d : Bool) → c ≡ false → (b || (c && d)) ≡ b
none_yet b c d e = rw e (or_false b)

module _ {f : ℕ → ℕ → Bool} {n : ℕ} {old row : Row} {k : ℕ} (m : MarkedTo f n old row k) where
  pub mark_end : 32 * n ≤ k → (x y : ℕ) → bit row x y ≡ (bit old x y || (is_pair n x y && f x y))
  mark_end past x y =
      m.bits x y ∙ ap (λ (b : Bool). bit old x y || b)
      (by_test (is_pair n x y)
      (λ e. let i = pair_of n x y e in rw (lt-ltb (32 * x + y) k (omega (arith, i.first, i.second, m.bounded, past))) refl)
      (λ e. rw e (by_test (ltb (32 * x + y) k) (λ q. rw q refl) (λ q. rw q refl))))

  -- a pair of another number is as before
  other : (x y : ℕ) → (is_pair n x y ≡ true → 32 * x + y ≡ k → ⊥)
      → bit row x y ≡ (bit old x y || (ltb (32 * x + y) (k + 1) && (is_pair n x y && f x y)))
  other x y d =
      m.bits x y ∙ ap (λ (b : Bool). bit old x y || b)
      (by_test (is_pair n x y)
      (λ e. by_test (ltb (32 * x + y) k)
      (λ q. rw (q, lt-ltb (32 * x + y) (k + 1) (omega (arith, ltb-true (32 * x + y) k q))) refl)
      (λ q. rw (q, le-ltb (32 * x + y) (k + 1) (omega (arith, ltb-false (32 * x + y) k q, d e))) refl))
      (λ e. rw e (by_test (ltb (32 * x + y) k)
      (λ q. rw q (by_test (ltb (32 * x + y) (k + 1)) (λ z. rw z refl) (λ z. rw z refl)))
      (λ q. rw q (by_test (ltb (32 * x + y) (k + 1)) (λ z. rw z refl) (λ z. rw z refl))))))

  -- the pair of number k, by itself
  at_k : (x y : ℕ) → 32 * x + y ≡ k → bit row x y ≡ bit old x y
  at_k x y e =
      let z = le-ltb (32 * x + y) k (omega (arith, e)) in
      m.bits x y ∙ none_yet (bit old x y) (ltb (32 * x + y) k) (is_pair n x y && f x y) z

  split : (x y : ℕ) → is_pair n x y ≡ true → 32 * x + y ≡ k → (x ≡ k / 32) × (y ≡ k % 32)
  split x y e q = let i = pair_of n x y e in (omega (arith, q, i.second, m.bounded), omega (arith, q, i.second, m.bounded))

  -- it is no pair or does not pass
  pub mark_pass : (is_pair n (k / 32) (k % 32) && f (k / 32) (k % 32)) ≡ false → MarkedTo f n old row (k + 1)
  mark_pass g = record {
    bounded = m.bounded;
    bits = λ x y.
        by_test (is_pair n x y)
        (λ e. by_cases (ℕ_discrete (32 * x + y) k)
        (λ q. let s = split x y e q in
        let z : (is_pair n x y && f x y) ≡ false = rw (s.0, s.1) g in
        let o = or_false (bit old x y) in
        at_k x y q ∙ sym (rw z (by_test (ltb (32 * x + y) (k + 1)) (λ w. rw w o) (λ w. rw w o))))
        (λ q. other x y (λ e z. q z)))
        (λ e. other x y (λ t z. both t e));
  }

  -- it is marked already
  pub mark_again : bit row (k / 32) (k % 32) ≡ true → MarkedTo f n old row (k + 1)
  mark_again g = record {
    bounded = m.bounded;
    bits = λ x y.
        by_test (is_pair n x y)
        (λ e. by_cases (ℕ_discrete (32 * x + y) k)
        (λ q. let s = split x y e q in
        let z : bit row x y ≡ true = rw (s.0, s.1) g in
        let w : bit old x y ≡ true = sym (at_k x y q) ∙ z in
        rw (z, w) refl)
        (λ q. other x y (λ e z. q z)))
        (λ e. other x y (λ t z. both t e));
  }

  -- it passes and is marked
  module _ (more : Row) (same : mask_in more (k / 32) ≡ with_bit (mask_in row (k / 32)) (k % 32))
      (rest : (x : ℕ) → (x ≡ k / 32 → ⊥) → mask_in more x ≡ mask_in row x) where
    kept : (x y : ℕ) → (x ≡ k / 32 → y ≡ k % 32 → ⊥) → bit more x y ≡ bit row x y
    kept x y d =
        by_cases (ℕ_discrete x (k / 32))
        (λ u. rw (u, same) (test_with_other (mask_in row (k / 32)) (k % 32) y (λ v. d u v)))
        (λ u. rw (rest x u) refl)

    pub mark_here : is_pair n (k / 32) (k % 32) ≡ true → f (k / 32) (k % 32) ≡ true → MarkedTo f n old more (k + 1)
    mark_here i g = record {
      bounded = m.bounded;
      bits = λ x y.
          by_cases (ℕ_discrete (32 * x + y) k)
          (λ q. by_test (is_pair n x y)
          (λ e. let s = split x y e q in
          let z : bit more x y ≡ true = rw (s.0, s.1, same) (test_with_same (mask_in row (k / 32)) (k % 32)) in
          let w : f x y ≡ true = rw (s.0, s.1) g in
          z ∙ sym (or_true (bit old x y) (rw (lt-ltb (32 * x + y) (k + 1) (omega (arith, q)), e, w) refl)))
          (λ e. kept x y (λ u v. both (rw (← u, ← v) at i) e) ∙ other x y (λ t z. both t e)))
          (λ q. kept x y (λ u v. q (omega (arith, u, v))) ∙ other x y (λ e z. q z));
    }

-- the marks of a list with one term more
module _ (a : Archive) (p : Pair) where
  abbrev term : Term Word
  term = term_of (problem_in a) p

  pub marks_more : (r : RuleList Word) (old row : Row) → PairMarks a r old
      → ((x y : ℕ) → bit row x y
      ≡ (bit old x y || (is_pair a.graph.parties x y && meets_term a.graph.parties a.graph.table x y (plain_term term))))
      → PairMarks a (r ++ (term ∷ [])) row
  unfolding permits meets_term
  marks_more r old row h k u v =
      let i = is_pair a.graph.parties u v in
      let m = meets_term a.graph.parties a.graph.table u v (plain_term term) in
      let meet = meets (problem_in a) (pair u v) in
      let o = owned_met a p (pair u v) term (term_owned (problem_in a) p) in
      k u v
      ∙ ap (λ (b : Bool). b || (i && m)) (h u v)
      ∙ or_and i (permits (problem_in a) r (pair u v)) m
      ∙ ap (λ (b : Bool). i && (permits (problem_in a) r (pair u v) || b)) (sym o)
      ∙ ap (λ (b : Bool). i && b) (sym (any_append meet r (term ∷ []) ∙ ap (λ (b : Bool). any_of meet r || b) (any_one meet term)))
