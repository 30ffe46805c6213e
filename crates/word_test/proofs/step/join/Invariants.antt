-- Invariant: the masks before v have c where the symbol leads to them, the others are the row's.
use Rattle.std.proofs.Common.{get_or}
use Rattle.masks.specs.promises.Table.{no_row}
use Rattle.word_test.proofs.StepLaws.{JoinedTo}
use Rattle.word_test.proofs.step.join.Given as goal

abbrev pub invariant-loop-v : goal.invariant-loop-v
invariant-loop-v l = JoinedTo l.initial.joined (get_or l.g.table.rows l.c no_row) l.s.number l.c l.joined l.v
