-- Onwards from the mask, place by place (WayLaws).
-- Invariant: no party outside of the mask has a way back from here, nor any where those of the masks so far are too few.
use Rattle.word_test.proofs.WayLaws.{Walked}
use Rattle.word_test.proofs.back.SearchBack.walked.Given as goal

abbrev pub invariant-loop-at : goal.invariant-loop-at
invariant-loop-at l = Walked l.self.graph.parties l.self.graph.table l.self.word.word l.mask l.from l.visited l.parties l.all l.at
