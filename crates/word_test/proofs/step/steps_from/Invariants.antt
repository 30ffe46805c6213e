-- Invariant: the mask has exactly those parties before c to which the symbol leads.
use Rattle.masks.specs.promises.Mask.{test_bit}
use Rattle.std.proofs.Common.{get_or}
use Rattle.masks.specs.promises.Table.{no_row, mask_in}
use Rattle.masks.proofs.MaskLaws.{Filled}
use Rattle.word_test.proofs.step.steps_from.Given as goal

abbrev pub invariant-loop-c : goal.invariant-loop-c
invariant-loop-c l = Filled (λ x. test_bit (mask_in (get_or l.g.table.rows l.u no_row) x) l.s.number) l.c l.mask
