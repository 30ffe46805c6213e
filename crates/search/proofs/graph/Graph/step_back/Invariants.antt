-- Invariant: each party before u has the mask of one step back.
use Rattle.std.proofs.Common.{◌≡◌, ℕ, ◌<◌, length, get_or}
use Rattle.limits.specs.Limits.{most_parties}
use Rattle.masks.specs.promises.Table.{no_row, mask_in}
use Rattle.search.specs.promises.WalkPairs.{StepsBack}
use Rattle.search.proofs.graph.Graph.step_back.Given as goal

abbrev pub invariant-loop-u : goal.invariant-loop-u
invariant-loop-u l =
    (length l.back.masks ≡ most_parties)
    × ((x : ℕ) → x < l.u → StepsBack (get_or l.self.table.rows x no_row) l.s.number l.row (mask_in l.back x) l.self.parties)
