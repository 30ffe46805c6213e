use Rattle.std.proofs.Common.{ℕ, Bool, ◌&&◌, sym, ◌∙◌}
use Rattle.lists.proofs.Cases.{and_both, and_false}
use Rattle.masks.specs.promises.Mask.{test_bit}
use Rattle.masks.specs.promises.Table.{mask_at}
use Rattle.masks.proofs.MaskLaws.{filled_none, filled_with, filled_without}
use Rattle.word_test.proofs.step.steps_to.Goals as goal
use Rattle.word_test.proofs.step.steps_to.Goals.{then-has+then-is_in, else-has}
use Rattle.word_test.proofs.step.steps_to.Goals.{else-has-via-then-has+else-is_in, else-has-via-else-has}

pub loop-c-init : goal.loop-c-init
loop-c-init c = filled_none _

pub loop-c-preserved : goal.loop-c-preserved
loop-c-preserved c =
    let l = c.loop-c in
    let a = c.args in
    let p : ℕ → Bool = λ x. test_bit a.among x && test_bit (mask_at a.g.now.table x a.u) a.s.number in
    elim c.if-has.branch [
      | then-has+then-is_in w ↦ rw (w.mask-is ∙ w.with-mask.ensures)
          (filled_with p l.c l.mask l.invariant
          (and_both (sym c.has.ensures ∙ w.if-has.true) (sym w.is_in.ensures ∙ w.if-is_in.true)))
      | else-has w ↦ rw w.mask-is
          (filled_without p l.c l.mask l.invariant (elim w.else-has.branch [
            | else-has-via-then-has+else-is_in w' ↦
                and_false (test_bit a.among l.c) (sym w'.is_in.ensures ∙ w'.if-is_in.false)
            | else-has-via-else-has w' ↦ rw (sym c.has.ensures ∙ w'.if-has.false)
          ]))
    ]
