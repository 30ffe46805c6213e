-- A party to which the symbol leads brings its ends (WalkPairLaws).
-- Invariant: an end that the mask lacks, the row lacks for each party before x to which the symbol leads.
use Rattle.std.proofs.Common.{get_or}
use Rattle.masks.specs.promises.Table.{no_row}
use Rattle.search.specs.promises.WalkPairs.{StepsBack}
use Rattle.search.proofs.graph.Graph.mask_before.Given as goal

abbrev pub invariant-loop-x : goal.invariant-loop-x
invariant-loop-x l = StepsBack (get_or l.self.table.rows l.u no_row) l.s.number l.row l.mask l.x
