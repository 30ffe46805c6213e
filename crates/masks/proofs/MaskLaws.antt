-- Masks as sets of places: a mask below 2 ^ w has no place from w on, and one filled place by place has the places that passed.
-- Assumes nothing.
use Rattle.std.proofs.Common.{◌≡◌, sym, ap, ◌∙◌, Bool, true, false, ◌&&◌, ℕ, ◌+◌, ◌^◌, ◌≤◌, ◌<◌, arith, ltb, lt-ltb, le-ltb}
use Rattle.std.proofs.Math.Logic.{by_cases}
use Rattle.std.proofs.Math.Nat.{zero-div, div-eq_of_lt}
use Rattle.std.proofs.Math.Decide.{dec_lt, ℕ_discrete}
use Rattle.masks.specs.promises.Mask.{test_bit, with_bit}
use Rattle.masks.proofs.BitLaws.{none_from, test_with_same, test_with_other}

-- the empty mask has no place
pub zero_bit : (k : ℕ) → test_bit 0 k ≡ false
unfolding test_bit
zero_bit k = simp zero-div

pub high_bit : (w n k : ℕ) → n < 2 ^ w → w ≤ k → test_bit n k ≡ false
unfolding test_bit
high_bit w n k h l = simp (none_from n w k (div-eq_of_lt h) l)

-- the mask has exactly the places below v that pass
abbrev pub Filled : (ℕ → Bool) → ℕ → ℕ → Type 0
Filled p v mask = (x : ℕ) → test_bit mask x ≡ (ltb x v && p x)

pub filled_none : (p : ℕ → Bool) → Filled p 0 0
filled_none p x = zero_bit x ∙ rw (le-ltb x 0 (omega arith))

module _ (p : ℕ → Bool) (v mask : ℕ) (h : Filled p v mask) where
  -- a place other than v is below v + 1 where it is below v
  below : (x : ℕ) → (x ≡ v → ⊥) → ltb x v ≡ ltb x (v + 1)
  below x ne =
      by_cases (dec_lt x v)
      (λ l. lt-ltb x v l ∙ sym (lt-ltb x (v + 1) (omega arith)))
      (λ g. le-ltb x v (omega arith) ∙ sym (le-ltb x (v + 1) (omega (arith, ne))))

  pub filled_with : p v ≡ true → Filled p (v + 1) (with_bit mask v)
  filled_with e x =
      by_cases (ℕ_discrete x v)
      (λ q. rw (q, test_with_same mask v, lt-ltb v (v + 1) (omega arith), e))
      (λ q. test_with_other mask v x q ∙ h x ∙ ap (λ (b : Bool). b && p x) (below x q))

  pub filled_without : p v ≡ false → Filled p (v + 1) mask
  filled_without e x =
      by_cases (ℕ_discrete x v)
      (λ q. rw q (h v ∙ rw (le-ltb v v (omega arith), lt-ltb v (v + 1) (omega arith), e)))
      (λ q. h x ∙ ap (λ (b : Bool). b && p x) (below x q))

  -- where nothing passes from v on, the mask has all places that pass
  pub filled_all : ((x : ℕ) → v ≤ x → p x ≡ false) → (x : ℕ) → test_bit mask x ≡ p x
  filled_all e x =
      by_cases (dec_lt x v)
      (λ l. h x ∙ rw (lt-ltb x v l))
      (λ g. h x ∙ rw (le-ltb x v (omega arith), e x (omega arith)))
