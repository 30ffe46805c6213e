-- The first telling word in letters, read as symbols, is the graph's own (LengthLaws). Where letters are too many, the lengths one by one.
use Rattle.std.proofs.Common.{rules}
use Rattle.search.specs.Word.{symbols_in}
use Rattle.search.specs.promises.PairSearch.{graph_of}
use Rattle.classes.specs.promises.Prefixes.{own_pair, other_pair}
use Rattle.classes.proofs.LengthLaws.{first_length, found_in_symbols, none_in_symbols}
use Rattle.classes.proofs.lengths.first_telling_word.Goals as goal

pub returns-in_default : goal.returns-in_default
returns-in_default c al A =
    let q = c.args.q.now in
    let r = c.by_lengths in
    first_length (graph_of q.graph) (own_pair q) (other_pair q) al q.is_pair.first (λ k x h. search rules) c.args.from c.args.d r.result
    r.ensures

pub telling_longer-requires-clause-classed : goal.telling_longer-requires-clause-classed
telling_longer-requires-clause-classed c = λ h. (c.in-Some.ensures c.args.q.now.graph.parties c.args.q.now.graph.within).classed

pub returns-in_err-word : goal.returns-in_err-word
returns-in_err-word c al A =
    let q = c.args.q.now in
    rw c.from_residual.ensures (none_in_symbols (c.in-Some.ensures q.graph.parties q.graph.within) (own_pair q) (other_pair q) c.args.from _
    q.is_pair q.other al A.ascending A.listed c.in_err-word.ensures)

pub returns : goal.returns
returns c al A =
    let q = c.args.q.now in
    found_in_symbols (c.in-Some.ensures q.graph.parties q.graph.within) (own_pair q) (other_pair q) c.args.from _
    q.is_pair q.other al A.ascending A.listed (symbols_in c.in_ok-word.word.word) _ c.in_ok-word.ensures c.in_symbols.ensures
