-- Invariant: the mask has exactly those parties of the other before c from which the symbol leads to u.
use Rattle.std.proofs.Common.{◌&&◌}
use Rattle.masks.specs.promises.Mask.{test_bit}
use Rattle.masks.specs.promises.Table.{mask_at}
use Rattle.masks.proofs.MaskLaws.{Filled}
use Rattle.word_test.proofs.step.steps_to.Given as goal

abbrev pub invariant-loop-c : goal.invariant-loop-c
invariant-loop-c l = Filled (λ x. test_bit l.among x && test_bit (mask_at l.g.table x l.u) l.s.number) l.c l.mask
