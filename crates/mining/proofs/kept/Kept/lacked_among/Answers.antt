use Rattle.std.proofs.Common.{sym, ◌∙◌}
use Rattle.mining.proofs.KeptLaws.{kept_term, kept_start, read_lacked, read_had}
use Rattle.mining.proofs.kept.Kept.lacked_among.Goals as goal

pub of_term-word-items-requires : goal.of_term-word-items-requires
of_term-word-items-requires c = (_, (_, kept_term c.requires.1))

pub loop-word-init : goal.loop-word-init
loop-word-init c words K =
    rw c.into_iter-word-iterator.ensures.into_iter_gives
    (kept_start c.args.t.now K (c.of_term-word-items.ensures.ahead _ _ (kept_term K)) c.zeros-w.ensures.len c.zeros-w.ensures.symbols)

pub returns-then-not-has_word : goal.returns-then-not-has_word
returns-then-not-has_word c words K =
    let o = c.other-other.ensures in
    let no = sym (rw (o.graph, o.first, o.second) at c.has_word.ensures) ∙ c.if-not-has_word.true in
    read_lacked (c.loop-word.invariant _ K) c.in-Some.ensures.steps no

pub loop-word-preserved : goal.loop-word-preserved
loop-word-preserved c words K =
    let o = c.other-other.ensures in
    let yes = sym (rw (o.graph, o.first, o.second) at c.has_word.ensures) ∙ c.if-not-has_word.false in
    read_had (c.loop-word.invariant _ K) c.in-Some.ensures.steps yes
