-- A search for a pair of parties.
use Rattle.std.specs.Prelude.{ℕ, List}
use Rattle.std.proofs.Math.Option.{Option}
use Rattle.masks.specs.promises.Mask.{test_bit, with_bit}
use Rattle.masks.specs.promises.Table.{mask_at}
use Rattle.masks.specs.declared.Table.{Table}
use Rattle.rebac.specs.Matter.{Pair, pair}
use Rattle.rebac.specs.Paths.{Graph}
use Rattle.rebac.specs.promises.Forms.{Place}
use Rattle.search.specs.Word.{symbols_in}
use Rattle.search.specs.promises.Search.{form_of, search_from}
use Rattle.search.specs.declared.graph.Graph.{Graph as GraphValue}
use Rattle.search.specs.declared.pair.PairIn.{PairIn}
use Rattle.search.specs.declared.word.Form.{Form}

-- the graph of a table of masks: a symbol leads from u to v where its bit is set
abbrev pub table_graph : ℕ → Table → Graph ℕ
table_graph n t = record { parties = n; edge = λ u v s. test_bit (mask_at t u v) s }

-- the parties after the first of the pair's least path along the places
abbrev pub search_pair : ℕ → Table → ℕ → ℕ → List Place → Option (List ℕ)
search_pair n t first second xs = search_from n t (with_bit 0 first) first second xs

-- the graph of a graph as a value, the pair of a pair in it, and the parties after the first of its least path along a form
abbrev pub graph_of : GraphValue → Graph ℕ
graph_of g = table_graph g.parties g.table

abbrev pub pair_of : PairIn → Pair
pair_of q = pair q.first q.second

abbrev pub search_form : PairIn → Form → Option (List ℕ)
search_form q f = search_pair q.graph.parties q.graph.table q.first q.second (form_of f.fixed (symbols_in f.word.word))
