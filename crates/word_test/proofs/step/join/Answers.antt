use Rattle.std.proofs.Common.{◌<◌, sym, ◌∙◌, arith}
use Rattle.word_test.proofs.StepLaws.{joined_with, joined_without}
use Rattle.word_test.proofs.step.join.Goals as goal
use Rattle.word_test.proofs.step.join.Goals.{then-is_in, else-is_in}

pub loop-v-preserved : goal.loop-v-preserved
loop-v-preserved c =
    let l = c.loop-v in
    let inside : l.v < 32 = omega (arith, c.args.g.now.within, c.loop-v-test.true) in
    elim c.if-is_in.branch [
      | then-is_in w ↦ rw w.joined-is (joined_with l.invariant inside (sym c.is_in.ensures ∙ w.if-is_in.true) w.with.ensures)
      | else-is_in w ↦ rw w.joined-is (joined_without l.invariant (sym c.is_in.ensures ∙ w.if-is_in.false))
    ]
