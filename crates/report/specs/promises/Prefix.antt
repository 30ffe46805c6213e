-- Room for the text, the list that it is made of, and a count of bytes at the start of a slice.
use Rattle.std.specs.Prelude.{ℕ, ◌+◌, ◌*◌, ◌≤◌, ◌≡◌, List, length, take, Ok}
use Rattle.graph.specs.FileMatter.{matter_of}
use Rattle.conversion.specs.Calls.{bytes_of, verdict_call}
use Rattle.conversion.specs.declared.verdict.Verdict.TheVariants.{Convertible}
use Rattle.report.specs.Report.{list_limit}

-- a count of bytes at the start of a slice
abbrev pub PrefixLength : ℕ → List ℕ → Type 0
PrefixLength n l = (n ≤ length l) × (n ≡ length (take n l))

-- room for the text of a list: three bytes for each of its bytes are enough
abbrev pub list_room : ℕ
list_room = 3 * list_limit

-- and for the line before it
abbrev pub text_room : ℕ
text_room = 64 + list_room

-- a convertible file whose list has k bytes, and the list at the start of a slice where it is printed
pub record ListOf (f : List ℕ) (k : ℕ) (list : List ℕ) : Type 0 where
  pub verdict : verdict_call f ≡ Ok (Convertible k)
  pub bytes : k ≤ list_limit → take k list ≡ bytes_of (matter_of f)

-- what printing the list needs: the slice has it for some file, and room in a text of this size
pub record PartRoom (list : List ℕ) (k size : ℕ) : Type 0 where
  pub file : (f : List ℕ) × ListOf f k list
  pub inside : list_limit ≤ length list
  pub room : list_room ≤ size
