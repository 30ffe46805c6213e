use Rattle.std.proofs.Common.{ℕ, Bool, get_or, sym, ◌∙◌}
use Rattle.masks.specs.promises.Mask.{test_bit}
use Rattle.masks.specs.promises.Table.{no_row, mask_in}
use Rattle.masks.proofs.MaskLaws.{filled_none, filled_with, filled_without}
use Rattle.word_test.proofs.step.steps_from.Goals as goal
use Rattle.word_test.proofs.step.steps_from.Goals.{then-is_in, else-is_in}

pub loop-c-init : goal.loop-c-init
loop-c-init c = filled_none _

pub loop-c-preserved : goal.loop-c-preserved
loop-c-preserved c =
    let l = c.loop-c in
    let p : ℕ → Bool = λ x. test_bit (mask_in (get_or c.args.g.now.table.rows c.args.u no_row) x) c.args.s.number in
    elim c.if-is_in.branch [
      | then-is_in w ↦ rw (w.mask-is ∙ w.with-mask.ensures)
          (filled_with p l.c l.mask l.invariant (sym c.is_in.ensures ∙ w.if-is_in.true))
      | else-is_in w ↦ rw w.mask-is (filled_without p l.c l.mask l.invariant (sym c.is_in.ensures ∙ w.if-is_in.false))
    ]
