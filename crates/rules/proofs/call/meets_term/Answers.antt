-- The pair has the next word or the term is not met.
use Rattle.std.proofs.Common.{rules}
use Rattle.rules.specs.promises.Meets.{meets_term}
use Rattle.rules.proofs.MeetLaws.{meet_next, meet_end}
use Rattle.rules.proofs.call.meets_term.Goals as goal

pub loop-word-preserved-then-met : goal.loop-word-preserved-then-met
loop-word-preserved-then-met c =
    let i = c.loop-word.invariant in
    (search rules, λ t s h. meet_next (i.1 t s h) c.in-Some.ensures.steps c.has_word-met.result (rw c.if-met.true c.has_word-met.ensures))

pub loop-word-preserved : goal.loop-word-preserved
loop-word-preserved c =
    let i = c.loop-word.invariant in
    (search rules, λ t s h. meet_next (i.1 t s h) c.in-Some.ensures.steps c.loop-word.met (rw c.if-met.false))

pub returns : goal.returns
unfolding meets_term
returns c = λ t s h.
    let i = c.loop-word.invariant in
    let e = meet_end (i.1 t s h) c.in_default.ensures.steps in
    (e.0, search (rules, e.1, i.0))
