-- Decimal digits as std prints them, and one by one, and their number by a power of ten. Assumes nothing.
use Rattle.std.proofs.Common.{◌≡◌, refl, sym, ap, ◌∙◌, List, [], ◌∷◌, ◌++◌, ℕ, zero, suc, ◌+◌, ◌/◌, ◌%◌, ◌^◌, ◌≤◌, ◌<◌, arith}
use Rattle.std.proofs.Common.{pow-suc, ltb, length, length-append, lt-ltb, le-ltb, ltb-true, ltb-false}
use Rattle.std.specs.Fmt.{decimal}
use Rattle.std.proofs.lemmas.Fmt.{AppendsLastDigit, decimal_from_appends, length-decimal-le_succ}
use Rattle.lists.proofs.Cases.{by_test}
use Rattle.fields.specs.Decimal.{digits_in, decimal_text}

digits_one_by_one : AppendsLastDigit digits_in
unfolding digits_in
digits_one_by_one = record {
  one = λ k n h. rw (lt-ltb n 10 h) refl;
  more = λ k n h. rw (le-ltb n 10 h) refl;
}

-- what std prints of a number of 64 bits
pub decimal_same : (n : ℕ) → n < 2 ^ 64 → decimal n ≡ decimal_text n
unfolding decimal_text
decimal_same n h = sym (decimal_from_appends digits_in digits_one_by_one (suc n) n h (omega (arith, length-decimal-le_succ n h)))

-- turns enough give the same digits
digits_same : (k j n : ℕ) → n < k → n < j → digits_in k n ≡ digits_in j n
unfolding digits_in
digits_same zero j n h g = absurd (omega arith)
digits_same (suc k) zero n h g = absurd (omega arith)
digits_same (suc k) (suc j) n h g =
    by_test (ltb n 10)
    (λ e. rw e)
    (λ e. let l : 10 ≤ n = ltb-false n 10 e in rw (e, digits_same k j (n / 10) (omega arith) (omega arith)))

pub decimal_small : (n : ℕ) → n < 10 → decimal_text n ≡ (48 + n) ∷ []
unfolding decimal_text digits_in
decimal_small n h = rw (lt-ltb n 10 h)

pub decimal_more : (n : ℕ) → 10 ≤ n → decimal_text n ≡ decimal_text (n / 10) ++ ((48 + n % 10) ∷ [])
unfolding decimal_text digits_in
decimal_more n h =
    let same : digits_in n (n / 10) ≡ digits_in (suc (n / 10)) (n / 10) =
    digits_same n (suc (n / 10)) (n / 10) (omega arith) (omega arith) in
    rw (le-ltb n 10 h) (ap (λ (l : List ℕ). l ++ ((48 + n % 10) ∷ [])) same)

pub decimal_room : (n : ℕ) → 10 ≤ n → length (decimal_text n) ≡ length (decimal_text (n / 10)) + 1
decimal_room n h = ap length (decimal_more n h) ∙ length-append (decimal_text (n / 10)) ((48 + n % 10) ∷ [])

-- a number below a power of ten has at most so many digits
pub decimal_length : (k n : ℕ) → n < 10 ^ suc k → length (decimal_text n) ≤ suc k
decimal_length zero n h = let e : 10 ^ 1 ≡ 10 = refl in rw (decimal_small n (omega arith)) (omega arith)
decimal_length (suc k) n h =
    by_test (ltb n 10)
    (λ e. rw (decimal_small n (ltb-true n 10 e)) (omega arith))
    (λ e.
    let l : 10 ≤ n = ltb-false n 10 e in
    omega (arith, decimal_room n l, decimal_length k (n / 10) (omega (arith, pow-suc 10 (suc k)))))
