use Rattle.mining.proofs.CoverLaws.{covers_none, walked_start, walked_next}
use Rattle.mining.proofs.take.term_pairs.Goals as goal

pub loop-word-init : goal.loop-word-init
loop-word-init c t s h =
    rw c.into_iter-word-iterator.ensures.into_iter_gives
    (walked_start (c.of_term-word-items.ensures.ahead t s h) (covers_none c.args.a.now c.full-row.result c.full-row.ensures))

pub loop-word-preserved : goal.loop-word-preserved
loop-word-preserved c t s h =
    walked_next (c.loop-word.invariant t s h) c.walk_pairs.result c.common-row.result c.in-Some.ensures.steps c.walk_pairs.ensures
    c.common-row.ensures
