-- The mask's candidates are taken one by one, the lowest of those left first (WalkLaws).
-- Invariant: those left are candidates of the mask, and one of the mask that is no longer left may not follow at the place. Measure: the
-- mask of those left.
use Rattle.std.proofs.Common.{get_or}
use Rattle.masks.specs.promises.Table.{no_row}
use Rattle.search.specs.promises.Search.{place_at}
use Rattle.search.proofs.WalkLaws.{Taken}
use Rattle.search.proofs.graph.Graph.first_step.Given as goal

abbrev pub invariant-loop-left : goal.invariant-loop-left
invariant-loop-left l = Taken (place_at l.form.word.word l.form.fixed l.at) (get_or l.self.table.rows l.u no_row) l.mask l.left

abbrev pub decreases-loop-left : goal.decreases-loop-left
decreases-loop-left l = l.left
