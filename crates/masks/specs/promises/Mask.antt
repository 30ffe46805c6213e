-- A set of small numbers as the binary digits of one number.
use Rattle.std.specs.Prelude.{ℕ, ◌/◌, ◌%◌, ◌^◌, Bool, eqb}
use Rattle.std.specs.Int.Bits.{bit_or}

-- the digit of n at place k, 0 or 1
abbrev pub bit_at : ℕ → ℕ → ℕ
bit_at n k = n / 2 ^ k % 2

-- place k of the mask n is set
unfoldable pub test_bit : ℕ → ℕ → Bool
test_bit n k = eqb (n / 2 ^ k % 2) 1

-- n with place k set
unfoldable pub with_bit : ℕ → ℕ → ℕ
with_bit n k = bit_or n (2 ^ k)
