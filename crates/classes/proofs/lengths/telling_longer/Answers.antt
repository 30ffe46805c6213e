-- The lengths one after another (LengthLaws).
use Rattle.std.proofs.Common.{rules}
use Rattle.lists.specs.Lists.{range}
use Rattle.rebac.specs.promises.Telling.{first_telling}
use Rattle.search.specs.promises.PairSearch.{graph_of, table_graph}
use Rattle.words.specs.promises.Next.{WordAs}
use Rattle.classes.specs.promises.Prefixes.{own_pair, other_pair}
use Rattle.classes.proofs.LengthLaws.{first_length}
use Rattle.classes.proofs.lengths.telling_longer.Goals as goal

pub returns : goal.returns
returns c =
    let q = c.args.q.now in
    let r = c.by_lengths in
    let over = c.new-pairs.ensures in
    first_length (table_graph q.graph.parties c.args.l.now.graph) (own_pair q) (other_pair q) (range c.args.l.now.span.base) q.is_pair.first
    (λ k x h.
    let s = c.new-pairs.result in
    let al = range s.span.base in
    let found : WordAs (first_telling (graph_of s.pairs.graph) (own_pair s.pairs) (other_pair s.pairs) al k) x = search rules in
    rw (over.parties, over.table, over.first, over.second, over.u, over.v, over.base) at found)
    c.args.from c.args.d r.result r.ensures
