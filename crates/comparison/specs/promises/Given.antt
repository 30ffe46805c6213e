-- What the functions that go through the pairs answer for.
use Rattle.std.specs.Prelude.{ℕ, List}
use Rattle.rebac.specs.Matter.{Matter}
use Rattle.rebac.specs.Words.{Word}
use Rattle.graph.specs.promises.Archive.{Shows}
use Rattle.graph.specs.declared.archive.Archive.{Archive}
use Rattle.rule_bytes.specs.promises.Reading.{IsList}

-- the archive stands for the matter, and the bytes are the list's
pub record Given (M : Matter) (l : List (List Word)) (a : Archive) (list : List ℕ) : Type 0 where
  pub shows : Shows M a
  pub listed : IsList list l
