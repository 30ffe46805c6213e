-- How many of the first n marks are 0: one fewer for each mark set, so a loop that sets one a turn ends. Assumes nothing.
use Rattle.std.proofs.Common.{◌≡◌, refl, List, ℕ, zero, suc, ◌+◌, ◌≤◌, ◌<◌, arith, get_or, set, length, get_or-set_same, get_or-set_other}
use Rattle.std.proofs.Math.Logic.{by_cases}
use Rattle.std.proofs.Math.Decide.{ℕ_discrete}

abbrev one : ℕ → ℕ
one zero = 1
one (suc n) = 0

unfoldable pub clear : List ℕ → ℕ → ℕ
clear marks zero = 0
clear marks (suc n) = one (get_or marks n 0) + clear marks n

one_le : (x : ℕ) → one x ≤ 1
one_le zero = omega arith
one_le (suc x) = omega arith

pub clear_le : (marks : List ℕ) (n : ℕ) → clear marks n ≤ n
unfolding clear
clear_le marks zero = omega arith
clear_le marks (suc n) = omega (arith, clear_le marks n, one_le (get_or marks n 0))

-- a mark past the first n does not count
clear_past : (marks : List ℕ) (i n : ℕ) → n ≤ i → clear (set marks i 1) n ≡ clear marks n
unfolding clear
clear_past marks i zero h = refl
clear_past marks i (suc n) h = rw (get_or-set_other marks i n 1 0 (omega arith), clear_past marks i n (omega arith))

pub clear_set : (marks : List ℕ) (i n : ℕ) → i < n → i < length marks → get_or marks i 0 ≡ 0 → clear marks n ≡ suc (clear (set marks i 1) n)
unfolding clear
clear_set marks i zero h l e = absurd (omega arith)
clear_set marks i (suc n) h l e =
    by_cases (ℕ_discrete n i)
    (λ q. rw (q, e, get_or-set_same marks i 1 0 l, clear_past marks i i (omega arith)) (omega arith))
    (λ q. rw (get_or-set_other marks i n 1 0 q) (omega (arith, clear_set marks i n (omega (arith, q)) l e)))
