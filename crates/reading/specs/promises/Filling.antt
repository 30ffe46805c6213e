-- What is known of the input once a slice was filled from it.
use Rattle.std.specs.Prelude.{ℕ, ◌<◌, List, length}
use Rattle.std.specs.Prelude.{Option}
use Rattle.std.specs.Io.KnownBytes.{IsAtEnd}

-- fewer bytes than the slice has room for: the input has ended
abbrev pub EndsIfShort : Option (List ℕ) → List ℕ → ℕ → Type 0
EndsIfShort left space n = n < length space → IsAtEnd left
