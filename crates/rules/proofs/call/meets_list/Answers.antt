-- The next term is the first of those ahead: met, it answers; otherwise the rest of the list does.
use Rattle.std.proofs.Common.{sym, ◌∙◌}
use Rattle.rules.specs.promises.Meets.{meets_list}
use Rattle.rule_bytes.proofs.PlaceLaws.{next_term_at}
use Rattle.rules.proofs.MeetLaws.{list_next, list_yes}
use Rattle.rules.proofs.call.meets_list.Goals as goal

pub meets_term-r-requires : goal.meets_term-r-requires
meets_term-r-requires c =
    let w = c.requires in
    let f = c.loop.invariant w.0 w.1 in
    (_, (_, next_term_at f.ahead c.loop-test.true))

pub returns-then-r : goal.returns-then-r
unfolding meets_list
returns-then-r c =
    λ l h.
    let f = c.loop.invariant l h in
    let r = c.meets_term-r.ensures _ _ (next_term_at f.ahead c.loop-test.true) in
    sym (list_yes f c.loop-test.true (sym r.0 ∙ c.if-r.true))

pub loop-preserved : goal.loop-preserved
loop-preserved c =
    λ l h.
    let f = c.loop.invariant l h in
    let r = c.meets_term-r.ensures _ _ (next_term_at f.ahead c.loop-test.true) in
    list_next f c.loop-test.true _ r.1 (sym r.0 ∙ c.if-r.false)
