-- Files and the copies that the writer makes of them (02, Tickets 1 and 2), worked by hand.
use Rattle.std.specs.Prelude.{ℕ, ◌<◌, ◌≡◌, List, [], ◌∷◌, length}
use Rattle.house_layout.specs.declared.reply.Refusal.TheVariants.{Output}
use Rattle.canonical.specs.Calls.{refuses, writes, write_call}
use Rattle.worked_cases.specs.Files.{file_a, file_a2}

pub record CopiedFile : Type 0 where
  pub file : List ℕ
  pub copy : List ℕ

abbrev copied : List ℕ → List ℕ → CopiedFile
copied f c = record { file = f; copy = c }

-- A's records in another order: record 1 is party 1's, and party 0's permit stands before its relation
abbrev other_order : List ℕ
other_order =
    1 ∷ 3 ∷ 1 ∷ 0 ∷ 2 ∷ 0 ∷ 3 ∷ 0
    ∷ 2 ∷ 0 ∷ 1 ∷ 0 ∷ 0 ∷ 0
    ∷ 2 ∷ 0 ∷ 0 ∷ 0
    ∷ 2 ∷ 0xFF ∷ 3 ∷ 0
    ∷ 1 ∷ 0 ∷ 0 ∷ 0
    ∷ []

-- the same in edition 2
abbrev other_order2 : List ℕ
other_order2 =
    2 ∷ 3 ∷ 1 ∷ 0 ∷ 2 ∷ 0 ∷ 3 ∷ 0
    ∷ 2 ∷ 0 ∷ 1 ∷ 0 ∷ 0 ∷ 0
    ∷ 2 ∷ 0 ∷ 0 ∷ 0 ∷ 1
    ∷ 2 ∷ 0xFF ∷ 3 ∷ 0 ∷ 0
    ∷ 1 ∷ 0 ∷ 0 ∷ 0 ∷ 0
    ∷ []

-- one target with kinds FF, 1, 0
abbrev kinds_descending : List ℕ
kinds_descending = 1 ∷ 2 ∷ 2 ∷ 0 ∷ 1 ∷ 0 ∷ 3 ∷ 0 ∷ 1 ∷ 0 ∷ 0 ∷ 0 ∷ 1 ∷ 0xFF ∷ 2 ∷ 0 ∷ 1 ∷ 1 ∷ 3 ∷ 0 ∷ 1 ∷ 0 ∷ 0 ∷ 0 ∷ []

abbrev kinds_ascending : List ℕ
kinds_ascending =
    2 ∷ 2 ∷ 2 ∷ 0 ∷ 1 ∷ 0 ∷ 3 ∷ 0
    ∷ 1 ∷ 0 ∷ 0 ∷ 0
    ∷ 1 ∷ 0 ∷ 2 ∷ 0 ∷ 0
    ∷ 1 ∷ 1 ∷ 3 ∷ 0 ∷ 0
    ∷ 1 ∷ 0xFF ∷ 0 ∷ 0 ∷ 0
    ∷ []

-- an empty chain between two full ones, record 1 the last party's
abbrev empty_between : List ℕ
empty_between = 1 ∷ 3 ∷ 1 ∷ 0 ∷ 2 ∷ 0 ∷ 2 ∷ 0 ∷ 2 ∷ 0 ∷ 0 ∷ 0 ∷ 1 ∷ 0 ∷ 0 ∷ 0 ∷ 0 ∷ 0 ∷ 2 ∷ 0 ∷ 0 ∷ 0 ∷ []

abbrev between_in_order : List ℕ
between_in_order = 2 ∷ 3 ∷ 1 ∷ 0 ∷ 2 ∷ 0 ∷ 2 ∷ 0 ∷ 1 ∷ 0 ∷ 0 ∷ 0 ∷ 2 ∷ 0 ∷ 2 ∷ 0 ∷ 0 ∷ 0 ∷ 0 ∷ 0 ∷ 0 ∷ 0 ∷ 0 ∷ 2 ∷ []

-- one party alone
abbrev pub one_party : List ℕ
one_party = 1 ∷ 1 ∷ 1 ∷ 0 ∷ 1 ∷ 0 ∷ 0 ∷ 0 ∷ 0 ∷ 0 ∷ []

abbrev one_copied : List ℕ
one_copied = 2 ∷ 1 ∷ 1 ∷ 0 ∷ 1 ∷ 0 ∷ 0 ∷ 0 ∷ 0 ∷ 0 ∷ []

abbrev pub copied_files : List CopiedFile
copied_files =
    copied file_a file_a2
    ∷ copied file_a2 file_a2
    ∷ copied other_order file_a2
    ∷ copied other_order2 file_a2
    ∷ copied kinds_descending kinds_ascending
    ∷ copied empty_between between_in_order
    ∷ copied one_party one_copied
    ∷ []

-- an output of the copy's length takes it, a shorter one does not
pub record CopyHolds (c : CopiedFile) : Type 0 where
  pub written : write_call c.file (length c.copy) ≡ writes c.copy
  pub short : (size : ℕ) → size < length c.copy → write_call c.file size ≡ refuses Output
