-- The lengths are tried one after another (NextLaws).
use Rattle.std.proofs.Common.{rules, tests}
use Rattle.std.proofs.iter.runs.Sources.{range_runs}
use Rattle.lists.proofs.Ranges.{first_given}
use Rattle.search.specs.promises.PairSearch.{graph_of, pair_of}
use Rattle.words.proofs.NextLaws.{LeastOfNext, longer_given}
use Rattle.words.proofs.next.first_longer.Goals as goal

pub returns : goal.returns
returns c al A =
    let q = c.args.q.now in
    let k = c.args.k in
    let d = c.args.d in
    let r = c.find_map.ensures.runs in
    longer_given al (graph_of q.graph) (pair_of q) d k c.requires.shorter c.find_map.result
    (first_given r.0 _ _ (LeastOfNext al (graph_of q.graph) (pair_of q) d) (λ x o h e. search (rules, tests)) k d
    (rw r.1 at (range_runs r.0 r.0.seen)) c.find_map.result r.2)
