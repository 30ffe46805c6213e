-- A two-byte field: how long it is, what was written is read, and equal ones have equal bytes. Assumes nothing.
use Rattle.std.proofs.Common.{◌≡◌, refl, List, ℕ, ◌+◌, ◌/◌, ◌%◌, arith, length}
use Rattle.fields.specs.Numbers.{byte_at, u16_at, u16_bytes, Bytes}

pub u16_size : (n : ℕ) → length (u16_bytes n) ≡ 2
unfolding u16_bytes
u16_size n = refl

pub u16_read : (f : List ℕ) (at x : ℕ) → byte_at f at ≡ x % 256 → byte_at f (at + 1) ≡ x / 256 → u16_at f at ≡ x
unfolding u16_at
u16_read f at x a b = rw (a, b) (omega arith)

pub u16_same : (f g : List ℕ) → Bytes f → Bytes g → (at : ℕ) → u16_at f at ≡ u16_at g at
    → (byte_at f at ≡ byte_at g at) × (byte_at f (at + 1) ≡ byte_at g (at + 1))
unfolding u16_at
u16_same f g b d at e = (omega (arith, b at, d at, b (at + 1), d (at + 1)), omega (arith, b at, d at, b (at + 1), d (at + 1)))
