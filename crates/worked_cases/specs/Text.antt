-- Quoted text as bytes.
use Rattle.std.specs.Prelude.{ℕ, List, [], ◌∷◌}
use Prim.Native.Char.{code}
use Prim.Native.String.{String, [] as empty, ◌∷◌ as ◌then◌}

-- the number of each character; "\n" is 0A
unfoldable pub bytes_in : String → List ℕ
bytes_in empty = []
bytes_in (c then s) = code c ∷ bytes_in s
