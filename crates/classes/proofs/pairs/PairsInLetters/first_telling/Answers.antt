-- From the empty prefix on, all letters below the base.
use Rattle.std.proofs.Common.{refl, []}
use Rattle.search.specs.promises.PairSearch.{graph_of}
use Rattle.classes.specs.promises.Prefixes.{own_pair, other_pair}
use Rattle.classes.proofs.PrefixLaws.{onward_start}
use Rattle.classes.proofs.pairs.PairsInLetters.first_telling.Goals as goal

pub returns : goal.returns
returns c =
    let s = c.args.self.now in
    rw (← onward_start (graph_of s.pairs.graph) (own_pair s.pairs) (other_pair s.pairs) s.span.base c.args.len)
    (c.seek.ensures [] c.args.len c.zeros.ensures.symbols refl)
