-- One binary digit of a number, at any width: by splitting the number at the digit. Assumes nothing.
use Rattle.std.proofs.Common.{◌≡◌, refl, sym, ap, ◌∙◌, subst, true, false, ◌&&◌, ◌||◌, ◌⊎◌, inl, inr, ⊎_elim, ℕ}
use Rattle.std.proofs.Common.{zero, suc, ◌+◌, ◌-◌, ◌*◌, ◌/◌, ◌%◌, ◌^◌, ◌≤◌, ◌<◌, mod-lt, pow-suc, one-mul, arith}
use Rattle.std.proofs.Common.{eqb, lit<, pow_pos, pow-add, shr-shr, shl_exact, bit_and, bit_or, eq-eqb, ne_eqb}
use Rattle.std.proofs.lemmas.Bool.{eqb-false}
use Rattle.std.proofs.lemmas.Nat.{and_mask, and_shr, and_mod, or_lt, or_shr, or_mod, or_block, ones_cat}
use Rattle.std.proofs.Math.Logic.{by_cases}
use Rattle.std.proofs.Math.Nat.{div_self, div-eq_of_lt, zero-div, mul-mod_left}
use Rattle.std.proofs.Math.Decide.{dec_lt}
use Rattle.std.proofs.Math.Arith.{bin_ind}
use Rattle.std.proofs.Math.Pow.{pow-lt, shl-shr, split, ones_lt, ones_split, high}
use lib.Bits.{or_zero_r, or_step}
use lib.Count.{ones, ones_step}
use Rattle.lists.proofs.Cases.{and_right, or_true}
use Rattle.masks.specs.promises.Mask.{bit_at, test_bit, with_bit}

-- a digit is 0 or 1
pub bit_cases : (n k : ℕ) → (bit_at n k ≡ 0) ⊎ (bit_at n k ≡ 1)
bit_cases n k = two (bit_at n k) (mod-lt (n / 2 ^ k) (lit< tt))
  where
    two : (b : ℕ) → b < 2 → (b ≡ 0) ⊎ (b ≡ 1)
    two zero h = inl refl
    two (suc zero) h = inr refl
    two (suc (suc b)) h = absurd (omega arith)

-- what the code computes, `(n >> k) & 1`
pub and_bit : (n k : ℕ) → bit_and (n / 2 ^ k) 1 ≡ bit_at n k
and_bit n k = and_mask (n / 2 ^ k) 1

or_one : (b : ℕ) → b < 2 → bit_or b 1 ≡ 1
or_one zero h = refl
or_one (suc zero) h = refl
or_one (suc (suc b)) h = absurd (omega arith)

or_bit : (n v k : ℕ) → bit_at (bit_or n (2 ^ v)) k ≡ bit_or (bit_at n k) (bit_at (2 ^ v) k)
or_bit n v k = ap (λ (x : ℕ). x % 2) (or_shr n (2 ^ v) k) ∙ or_mod (n / 2 ^ k) (2 ^ v / 2 ^ k) 1

pow_bit_same : (v : ℕ) → bit_at (2 ^ v) v ≡ 1
pow_bit_same v = ap (λ (x : ℕ). x % 2) (div_self (pow_pos v))

pow_bit_above : (v k : ℕ) → v < k → bit_at (2 ^ v) k ≡ 0
pow_bit_above v k h = ap (λ (x : ℕ). x % 2) (div-eq_of_lt (pow-lt h))

pow_bit_below : (k d : ℕ) → bit_at (2 ^ (suc d + k)) k ≡ 0
pow_bit_below k d =
    ap (λ (x : ℕ). x / 2 ^ k % 2) (pow-add 2 (suc d) k)
    ∙ ap (λ (x : ℕ). x % 2) (shl-shr (2 ^ suc d) k)
    ∙ ap (λ (x : ℕ). x % 2) (pow-suc 2 d)
    ∙ mul-mod_left (2 ^ d) 2

pow_bit_other : (v k : ℕ) → (k ≡ v → ⊥) → bit_at (2 ^ v) k ≡ 0
pow_bit_other v k ne =
    by_cases (dec_lt v k) (λ l. pow_bit_above v k l)
    (λ g. let e : suc (v - k - 1) + k ≡ v = omega arith in
    subst (λ (x : ℕ). bit_at (2 ^ x) k ≡ 0) e (pow_bit_below k (v - k - 1)))

-- the place v of `n | (1 << v)` is set, and every other is as in n
pub bit_with_same : (n v : ℕ) → bit_at (bit_or n (2 ^ v)) v ≡ 1
bit_with_same n v =
    or_bit n v v ∙ ap (λ (x : ℕ). bit_or (bit_at n v) x) (pow_bit_same v) ∙ or_one (bit_at n v) (mod-lt (n / 2 ^ v) (lit< tt))

pub bit_with_other : (n v k : ℕ) → (k ≡ v → ⊥) → bit_at (bit_or n (2 ^ v)) k ≡ bit_at n k
bit_with_other n v k ne =
    or_bit n v k ∙ ap (λ (x : ℕ). bit_or (bit_at n k) x) (pow_bit_other v k ne) ∙ or_zero_r (bit_at n k)

pub with_lt : (w n v : ℕ) → n < 2 ^ w → v < w → bit_or n (2 ^ v) < 2 ^ w
with_lt w n v h l = or_lt w n (2 ^ v) h (pow-lt l)

-- the same of the test
pub test_with_same : (n v : ℕ) → test_bit (with_bit n v) v ≡ true
unfolding test_bit with_bit
test_with_same n v = eq-eqb _ 1 (bit_with_same n v)

pub test_with_other : (n v k : ℕ) → (k ≡ v → ⊥) → test_bit (with_bit n v) k ≡ test_bit n k
unfolding test_bit with_bit
test_with_other n v k ne = ap (λ (x : ℕ). eqb x 1) (bit_with_other n v k ne)

-- one more digit is set
or_one_step : (q : ℕ) → q % 2 ≡ 0 → bit_or q 1 ≡ q / 2 * 2 + 1
or_one_step q e = or_step q 1 ∙ simp (or_zero_r, e)

ones_one : ones 1 ≡ 1
unfolding ones
ones_one = refl

ones_odd : (a : ℕ) → ones (a * 2 + 1) ≡ ones a + 1
ones_odd a = ones_cat 1 a 1 (lit< tt) ∙ ap (λ (x : ℕ). ones a + x) ones_one

pub ones_with : (n v : ℕ) → bit_at n v ≡ 0 → ones (bit_or n (2 ^ v)) ≡ ones n + 1
ones_with n v e =
    let q : ℕ = n / 2 ^ v in
    let r : ℕ = n % 2 ^ v in
    let lt : n % 2 ^ v < 2 ^ v = mod-lt n (pow_pos v) in
    let a : bit_or n (2 ^ v) ≡ bit_or q 1 * 2 ^ v + r =
    ap (λ (x : ℕ). bit_or x (2 ^ v)) (sym (split n v))
    ∙ ap (λ (x : ℕ). bit_or (n / 2 ^ v * 2 ^ v + n % 2 ^ v) x) (omega arith)
    ∙ or_block v (n / 2 ^ v) 1 (n % 2 ^ v) 0 lt (pow_pos v)
    ∙ ap (λ (x : ℕ). bit_or (n / 2 ^ v) 1 * 2 ^ v + x) (or_zero_r (n % 2 ^ v)) in
    let b : ones n ≡ ones q + ones r = ap ones (sym (split n v)) ∙ ones_cat v q r lt in
    let d : ones (bit_or q 1) ≡ ones (q / 2) + 1 = ap ones (or_one_step q e) ∙ ones_odd (q / 2) in
    let g : ones q ≡ q % 2 + ones (q / 2) = ones_step q in
    let f : ones (bit_or n (2 ^ v)) ≡ ones (bit_or q 1) + ones r = ap ones a ∙ ones_cat v (bit_or q 1) r lt in
    omega arith

-- what the code computes, `1 << v` at a width w
pub shl_one : (w v : ℕ) → v < w → (1 * 2 ^ v) % 2 ^ w ≡ 2 ^ v
shl_one w v h = shl_exact 1 v w (lit< tt) (omega arith) ∙ one-mul (2 ^ v)

-- no place from f on is set where `n >> f` is 0
pub none_from : (n f k : ℕ) → n / 2 ^ f ≡ 0 → f ≤ k → bit_at n k ≡ 0
none_from n f k e h =
    let d : k ≡ f + (k - f) = omega arith in
    ap (λ (x : ℕ). n / 2 ^ x % 2) d
    ∙ ap (λ (x : ℕ). x % 2) (sym (shr-shr n f (k - f)) ∙ ap (λ (x : ℕ). x / 2 ^ (k - f)) e ∙ zero-div (2 ^ (k - f)))

-- a number that is not 0 has a place that is set
some_bit : (n : ℕ) → (n ≡ 0 → ⊥) → (k : ℕ) × (bit_at n k ≡ 1)
some_bit =
    bin_ind (λ (n : ℕ). (n ≡ 0 → ⊥) → (k : ℕ) × (bit_at n k ≡ 1)) (λ z. absurd (z refl))
    (λ n ih z. ⊎_elim
    (λ e. let q : (n / 2 ≡ 0 → ⊥) = λ y. z (omega (arith, e)) in
    let w : (k : ℕ) × (bit_at (n / 2) k ≡ 1) = ih q in
    (1 + w.0, ap (λ (x : ℕ). x % 2) (sym (shr-shr n 1 w.0)) ∙ w.1))
    (λ e. (0, e))
    (bit_cases n 0))

-- some place from f on is set where `n >> f` is not 0
pub some_from : (n f : ℕ) → (n / 2 ^ f ≡ 0 → ⊥) → (k : ℕ) × ((f ≤ k) × (bit_at n k ≡ 1))
some_from n f z =
    let w : (k : ℕ) × (bit_at (n / 2 ^ f) k ≡ 1) = some_bit (n / 2 ^ f) z in
    (f + w.0, (omega arith, ap (λ (x : ℕ). x % 2) (sym (shr-shr n f w.0)) ∙ w.1))

-- the code's own forms, against the specification
pub test_code : (n k : ℕ) → eqb (bit_and (n / 2 ^ k) 1) 1 ≡ test_bit n k
unfolding test_bit
test_code n k = ap (λ (x : ℕ). eqb x 1) (and_bit n k)

pub with_code : (w n v : ℕ) → v < w → bit_or n (1 * 2 ^ v % 2 ^ w) ≡ with_bit n v
unfolding with_bit
with_code w n v h = ap (bit_or n) (shl_one w v h)

-- a test's fact in a branch, `(n >> k) & 1 == 1` taken, `(n >> k) & 1 == 0` taken
pub test_yes : (n k : ℕ) → bit_and (n / 2 ^ k) 1 ≡ 1 → test_bit n k ≡ true
unfolding test_bit
test_yes n k e = eq-eqb _ 1 (sym (and_bit n k) ∙ e)

pub test_no : (n k : ℕ) → bit_and (n / 2 ^ k) 1 ≡ 0 → test_bit n k ≡ false
unfolding test_bit
test_no n k e = ne_eqb (bit_at n k) 1 (λ f. omega (arith, and_bit n k))

pub test_ones : (n v : ℕ) → test_bit n v ≡ false → ones (with_bit n v) ≡ ones n + 1
unfolding test_bit with_bit
test_ones n v e = ones_with n v (⊎_elim (λ z. z) (λ o. absurd (eqb-false _ 1 e o)) (bit_cases n v))

-- the tests left: `(n >> k) & 1 == 1` failed, `(n >> k) & 1 == 0` failed
pub test_off : (n k : ℕ) → (bit_and (n / 2 ^ k) 1 ≡ 1 → ⊥) → test_bit n k ≡ false
unfolding test_bit
test_off n k z = ne_eqb (bit_at n k) 1 (λ f. z (and_bit n k ∙ f))

pub test_on : (n k : ℕ) → (bit_and (n / 2 ^ k) 1 ≡ 0 → ⊥) → test_bit n k ≡ true
unfolding test_bit
test_on n k z = eq-eqb (bit_at n k) 1 (⊎_elim (λ e. absurd (z (and_bit n k ∙ e))) (λ o. o) (bit_cases n k))

-- a place of `n & m` is set where both have it, one of `n | m` where one of the two has it
and_digit : (a b : ℕ) → a < 2 → b < 2 → eqb (bit_and a b) 1 ≡ (eqb a 1 && eqb b 1)
and_digit zero zero h k = refl
and_digit zero (suc zero) h k = refl
and_digit zero (suc (suc b)) h k = absurd (omega arith)
and_digit (suc zero) zero h k = refl
and_digit (suc zero) (suc zero) h k = refl
and_digit (suc zero) (suc (suc b)) h k = absurd (omega arith)
and_digit (suc (suc a)) b h k = absurd (omega arith)

or_digit : (a b : ℕ) → a < 2 → b < 2 → eqb (bit_or a b) 1 ≡ (eqb a 1 || eqb b 1)
or_digit zero zero h k = refl
or_digit zero (suc zero) h k = refl
or_digit zero (suc (suc b)) h k = absurd (omega arith)
or_digit (suc zero) zero h k = refl
or_digit (suc zero) (suc zero) h k = refl
or_digit (suc zero) (suc (suc b)) h k = absurd (omega arith)
or_digit (suc (suc a)) b h k = absurd (omega arith)

pub test_and : (n m k : ℕ) → test_bit (bit_and n m) k ≡ (test_bit n k && test_bit m k)
unfolding test_bit
test_and n m k =
    ap (λ (x : ℕ). eqb x 1) (ap (λ (x : ℕ). x % 2) (and_shr n m k) ∙ and_mod (n / 2 ^ k) (m / 2 ^ k) 1)
    ∙ and_digit (bit_at n k) (bit_at m k) (mod-lt (n / 2 ^ k) (lit< tt)) (mod-lt (m / 2 ^ k) (lit< tt))

pub test_or : (n m k : ℕ) → test_bit (bit_or n m) k ≡ (test_bit n k || test_bit m k)
unfolding test_bit
test_or n m k =
    ap (λ (x : ℕ). eqb x 1) (ap (λ (x : ℕ). x % 2) (or_shr n m k) ∙ or_mod (n / 2 ^ k) (m / 2 ^ k) 1)
    ∙ or_digit (bit_at n k) (bit_at m k) (mod-lt (n / 2 ^ k) (lit< tt)) (mod-lt (m / 2 ^ k) (lit< tt))

pub test_or_left : (n m k : ℕ) → test_bit n k ≡ true → test_bit (bit_or n m) k ≡ true
test_or_left n m k e = test_or n m k ∙ rw e

pub test_or_right : (n m k : ℕ) → test_bit m k ≡ true → test_bit (bit_or n m) k ≡ true
test_or_right n m k e = test_or n m k ∙ or_true (test_bit n k) e

-- where `s & t == s`, every place set in s is set in t
pub test_within : (s t k : ℕ) → bit_and s t ≡ s → test_bit s k ≡ true → test_bit t k ≡ true
test_within s t k e h =
    and_right (test_bit s k) (test_bit t k) (sym (test_and s t k) ∙ ap (λ (x : ℕ). test_bit x k) e ∙ h)

-- a mask of w ones has each place below w
pub ones_bit : (w k : ℕ) → k < w → test_bit (2 ^ w - 1) k ≡ true
unfolding test_bit
ones_bit w k h =
    let d : w ≡ suc (w - k - 1) + k = omega arith in
    let p : 0 < 2 ^ (w - k - 1) = pow_pos (w - k - 1) in
    let s : 2 ^ suc (w - k - 1) ≡ 2 ^ (w - k - 1) * 2 = pow-suc 2 (w - k - 1) in
    let q : (2 ^ w - 1) / 2 ^ k ≡ 2 ^ suc (w - k - 1) - 1 =
    ap (λ (x : ℕ). (2 ^ x - 1) / 2 ^ k) d
    ∙ ap (λ (x : ℕ). x / 2 ^ k) (ones_split (suc (w - k - 1)) k)
    ∙ high (2 ^ suc (w - k - 1) - 1) k (ones_lt k) in
    eq-eqb _ 1 (ap (λ (x : ℕ). x % 2) q ∙ omega arith)
