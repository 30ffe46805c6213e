-- A pair tested on the terms of a rule list, over the masks of a graph.
use Rattle.std.specs.Prelude.{ℕ, Bool, List}
use Rattle.lists.specs.Lists.{all_of, any_of}
use Rattle.masks.specs.declared.Table.{Table}
use Rattle.rebac.specs.Matter.{pair}
use Rattle.rebac.specs.Paths.{has}
use Rattle.search.specs.promises.PairSearch.{table_graph}
use Rattle.search.specs.declared.pair.PairIn.{PairIn}

-- the pair has all words of a term; it meets a term of the list
unfoldable pub meets_term : ℕ → Table → ℕ → ℕ → List (List ℕ) → Bool
meets_term n g a b t = all_of (has (table_graph n g) (pair a b)) t

unfoldable pub meets_list : ℕ → Table → ℕ → ℕ → List (List (List ℕ)) → Bool
meets_list n g a b l = any_of (meets_term n g a b) l

-- the same for a pair as a value
abbrev pub term_met : PairIn → List (List ℕ) → Bool
term_met q t = meets_term q.graph.parties q.graph.table q.first q.second t

abbrev pub list_met : PairIn → List (List (List ℕ)) → Bool
list_met q l = meets_list q.graph.parties q.graph.table q.first q.second l
