-- No symbol, one symbol, and searches that end at once, are told apart (TestLaws, PlacesLaws); else the search back begins.
-- Invariant: the masks of the row have those before d from which the second symbol leads to them.
use Rattle.std.proofs.Common.{get_or}
use Rattle.word_test.proofs.StepLaws.{IntoTo}
use Rattle.word_test.proofs.PlacesLaws.{Wanted}
use Rattle.word_test.proofs.test.search_back.Given as goal

abbrev pub invariant-loop-d : goal.invariant-loop-d
invariant-loop-d l = record {
  wanted : Wanted l.w.word.len l.starts l.deep l.wanted;
  into : IntoTo l.q.graph.parties l.q.graph.table (get_or l.w.word.symbols 1 0) l.wanted l.seconds l.d;
}
