-- Backwards from the word's end, where each party walks to itself alone (WalkPairLaws).
-- Invariant: a pair that the row lacks has no walk along the symbols from `at` on.
use Rattle.std.proofs.Common.{drop}
use Rattle.search.specs.Word.{symbols_in}
use Rattle.search.proofs.WalkPairLaws.{NoWalks}
use Rattle.search.proofs.graph.Graph.walk_pairs.Given as goal

abbrev pub invariant-loop-at : goal.invariant-loop-at
invariant-loop-at l = NoWalks l.self.parties l.self.table (drop l.at (symbols_in l.w.word)) l.row
