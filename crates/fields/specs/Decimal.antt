-- Numbers as decimal text.
use Rattle.std.specs.Prelude.{ℕ, zero, suc, ◌+◌, ◌/◌, ◌%◌, List, [], ◌∷◌, ◌++◌, ltb}
use Rattle.lists.specs.Lists.{pick}

-- the decimal digits of n, with no zero in front; k turns are enough where n is below k
unfoldable pub digits_in : ℕ → ℕ → List ℕ
digits_in zero n = []
digits_in (suc k) n = pick (ltb n 10) ((48 + n) ∷ []) (digits_in k (n / 10) ++ ((48 + n % 10) ∷ []))

unfoldable pub decimal_text : ℕ → List ℕ
decimal_text n = digits_in (suc n) n
