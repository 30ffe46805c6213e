-- Invariant: the parties to which the symbol leads from one of the mask before c are gathered.
use Rattle.word_test.proofs.StepLaws.{Gathered}
use Rattle.word_test.proofs.back.SearchBack.parties_onward.Given as goal

abbrev pub invariant-loop-c : goal.invariant-loop-c
invariant-loop-c l = Gathered l.self.graph.parties l.self.graph.table l.s.number l.mask l.parties l.c
