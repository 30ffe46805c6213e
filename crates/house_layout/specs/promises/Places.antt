-- What reading a record needs: the record stands in the file.
use Rattle.std.specs.Prelude.{ℕ, ◌≤◌, ◌≡◌, List, length}
use Rattle.house_layout.specs.Layout.{header_of, records_of, size_of}
use Rattle.house_layout.specs.declared.header.Header.{Header}

-- record r of a file with these header numbers, whose length is right
pub record RecordThere (f : List ℕ) (h : Header) (r : ℕ) : Type 0 where
  pub numbers : h ≡ header_of f
  pub size : length f ≡ size_of f
  pub first : 1 ≤ r
  pub last : r ≤ records_of f
