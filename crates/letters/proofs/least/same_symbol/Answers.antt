-- The closure compares the two symbols at a pair as the code does.
use Rattle.std.proofs.Common.{◌≡◌, ◌∙◌, ℕ, ◌<◌, Bool, true, length, get_or, MatchBool, refl, zero-add, arith, rules, tests}
use Rattle.std.specs.List.{range_with_len, AllWithin}
use Rattle.std.proofs.lemmas.Iterator.{cases_from_all, YieldsList-from_range}
use Rattle.std.proofs.lemmas.List.FromFn.{get_or-range_with_len, length-range_with_len}
use Rattle.limits.specs.Limits.{pair_numbers}
use Rattle.masks.specs.promises.Mask.{test_bit}
use Rattle.letters.specs.promises.Writing.{pair_mask}
use Rattle.letters.proofs.least.same_symbol.Goals as goal

-- what holds at each number below n
each_below : (P : ℕ → Type 0) (n : ℕ) (No : Type 0) (r : Bool)
    → MatchBool r (AllWithin P (range_with_len 0 n) 0 (length (range_with_len 0 n))) No
    → r ≡ true → (i : ℕ) → i < n → P i
each_below P n No r h e i l =
    let all = rw e at h in
    let k : get_or (range_with_len 0 n) i 0 ≡ i = get_or-range_with_len 0 n i 0 l ∙ zero-add i in
    rw k at (all i 0 (omega arith) (omega (arith, length-range_with_len 0 n)))

pub returns : goal.returns
returns c =
    let a = c.args in
    let Same : ℕ → Type 0 = λ k. test_bit (pair_mask a.g.now k) a.s.number ≡ test_bit (pair_mask a.g.now k) a.other.number in
    each_below Same pair_numbers _ _
    (cases_from_all _ _ _ Same (λ k. Unit {0}) c.all.ensures.ran (YieldsList-from_range 0 pair_numbers pair_numbers refl refl)
    (λ x q k. search (rules, tests)) (λ x q k. tt))
