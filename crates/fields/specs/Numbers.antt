-- Numbers in bytes: the byte and the two-byte field at a place, and the bytes of a two-byte field.
use Rattle.std.specs.Prelude.{ℕ, ◌+◌, ◌*◌, ◌/◌, ◌%◌, ◌<◌, List, [], ◌∷◌, get_or}

abbrev pub byte_at : List ℕ → ℕ → ℕ
byte_at f i = get_or f i 0

-- a two-byte field, low byte first
unfoldable pub u16_at : List ℕ → ℕ → ℕ
u16_at f i = byte_at f i + byte_at f (i + 1) * 256

-- 01: "Two-byte fields have the low byte first."
unfoldable pub u16_bytes : ℕ → List ℕ
u16_bytes n = n % 256 ∷ n / 256 ∷ []

-- each byte is below 256
abbrev pub Bytes : List ℕ → Type 0
Bytes b = (i : ℕ) → get_or b i 0 < 256
