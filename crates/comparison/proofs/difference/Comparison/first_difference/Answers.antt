-- What is left to go through, before a number and after it.
use Rattle.std.proofs.Common.{sym, ap, ◌∙◌, Some, arith}
use Rattle.comparison.proofs.CompareLaws.{left_next, left_found, left_none}
use Rattle.comparison.proofs.difference.Comparison.first_difference.Goals as goal

pub returns-then-differ_at : goal.returns-then-differ_at
returns-then-differ_at c M l h =
    let o = c.loop-k in
    let yes = sym (c.differ_at.ensures M l h) ∙ c.if-differ_at.true in
    ap Some c.side_at.ensures ∙ sym (left_found M l _ _ h o.k c.loop-k-test.true (o.invariant M l h) yes)

pub loop-k-preserved : goal.loop-k-preserved
loop-k-preserved c M l h =
    let o = c.loop-k in
    left_next M l _ _ h o.k c.loop-k-test.true (o.invariant M l h) (sym (c.differ_at.ensures M l h) ∙ c.if-differ_at.false)

pub returns : goal.returns
returns c M l h = sym (left_none M l _ _ h c.loop-k.k (omega (arith, c.loop-k-test.false)) (c.loop-k.invariant M l h))
