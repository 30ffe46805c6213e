use Rattle.std.proofs.Common.{sym, ◌∙◌}
use Rattle.word_test.proofs.StepLaws.{gathered_with, gathered_without, gathered_onward}
use Rattle.word_test.proofs.back.SearchBack.parties_onward.Goals as goal
use Rattle.word_test.proofs.back.SearchBack.parties_onward.Goals.{then-has, else-has}

pub loop-c-preserved : goal.loop-c-preserved
loop-c-preserved c =
    let l = c.loop-c in
    elim c.if-has.branch [
      | then-has w ↦ rw w.parties-is (gathered_with l.invariant w.steps_from-parties.result w.steps_from-parties.ensures)
      | else-has w ↦ rw w.parties-is (gathered_without l.invariant (sym c.has.ensures ∙ w.if-has.false))
    ]

pub returns : goal.returns
returns c = gathered_onward c.loop-c.invariant c.args.visited c.loop-c-test.false
