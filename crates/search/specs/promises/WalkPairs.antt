-- Rows of pairs outside of which no pair has a word.
use Rattle.std.specs.Prelude.{◌≡◌, ℕ, ◌<◌, true, false, List}
use Rattle.masks.specs.promises.Mask.{test_bit}
use Rattle.masks.specs.promises.Table.{mask_in}
use Rattle.masks.specs.declared.Row.{Row}
use Rattle.masks.specs.declared.Table.{Table}
use Rattle.rebac.specs.Matter.{pair}
use Rattle.rebac.specs.Paths.{has}
use Rattle.search.specs.promises.PairSearch.{table_graph}

-- an end that the mask lacks, the row lacks for each party below k to which the symbol leads; `from` has the party's symbols
abbrev pub StepsBack : Row → ℕ → Row → ℕ → ℕ → Type 0
StepsBack from s row mask k =
    (x v : ℕ) → x < k → test_bit (mask_in from x) s ≡ true → test_bit mask v ≡ false → test_bit (mask_in row x) v ≡ false

-- a pair that the row lacks does not have the word
abbrev pub CoversPairs : ℕ → Table → List ℕ → Row → Type 0
CoversPairs n t w row =
    (u v : ℕ) → u < n → test_bit (mask_in row u) v ≡ false → has (table_graph n t) (pair u v) w ≡ false
