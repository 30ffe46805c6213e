-- The word after the empty one.
use Rattle.std.proofs.Common.{arith}
use Rattle.paths.proofs.CallLaws.{next_shown}
use Rattle.mining.specs.Values.{pair_in}
use Rattle.mining.proofs.pairs.ArchivePair.first_word.Goals as goal

pub returns : goal.returns
returns c M S =
    let own = c.args.self.now in
    let w = c.zeros.result in
    let o = c.in_graph.ensures in
    let n = rw (o.graph, o.first, o.second) at c.next_word.ensures in
    let r = next_shown M own.archive.now S (pair_in own.pair) w.word w.short (omega (arith, c.zeros.ensures.len)) _ n in
    rw c.zeros.ensures.symbols at r
