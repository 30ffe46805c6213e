use Rattle.std.proofs.Common.{refl, sym, ◌∙◌, arith}
use Rattle.mining.proofs.CoverLaws.{covers_not}
use Rattle.mining.proofs.MarkLaws.{mark_end, mark_pass, mark_again, mark_here}
use Rattle.mining.proofs.take.mark_term.Goals as goal
use Rattle.mining.proofs.take.mark_term.Goals.{then-meets_term, else-meets_term}

pub loop-k-preserved-then-not-is_in : goal.loop-k-preserved-then-not-is_in
loop-k-preserved-then-not-is_in c t s h =
    let e = c.at-q.ensures in
    let no = sym c.is_in.ensures ∙ c.if-not-is_in.true in
    let walked = c.term_pairs-alive in
    mark_pass (c.loop-k.invariant t s h) (covers_not c.args.a.now t walked.result (walked.ensures t s h) _ _ (rw e at no))

pub loop-k-preserved-in_default : goal.loop-k-preserved-in_default
loop-k-preserved-in_default c t s h =
    let e = c.at-q.ensures in
    mark_pass (c.loop-k.invariant t s h) (rw (rw e at c.in_default.ensures.0) refl)

pub loop-k-preserved-then-is_in : goal.loop-k-preserved-then-is_in
loop-k-preserved-then-is_in c t s h =
    let e = c.at-q.ensures in
    let yes = sym c.is_in-in-loop-k.ensures ∙ c.if-is_in.true in
    mark_again (c.loop-k.invariant t s h) (rw e at yes)

pub loop-k-preserved : goal.loop-k-preserved
loop-k-preserved c t s h =
    let e = c.at-q.ensures in
    let g = c.in-Ok.ensures in
    let r = rw (g.1.0, g.1.1.0, g.1.1.1) at (c.meets_term.ensures t s h).0 in
    let i = c.loop-k.invariant t s h in
    elim c.if-meets_term.branch [
      | then-meets_term w ↦
          let more = w.add-row.ensures in
          let yes = sym r ∙ w.if-meets_term.true in
          rw w.row-is (mark_here i w.add-row.result (rw e at more.same) (rw e at more.other) (rw e at g.0) (rw e at yes))
      | else-meets_term w ↦ let no = sym r ∙ w.if-meets_term.false in rw w.row-is (mark_pass i (rw (rw e at g.0) (rw e at no)))
    ]

pub returns : goal.returns
returns c t s h = mark_end (c.loop-k.invariant t s h) (omega (arith, c.loop-k-test.false))
