-- The first length at which something is told (LengthLaws).
use Rattle.std.proofs.Common.{rules, ◌+◌}
use Rattle.std.proofs.iter.runs.Sources.{range_runs}
use Rattle.lists.proofs.Ranges.{first_given}
use Rattle.classes.proofs.LengthLaws.{first_told}
use Rattle.classes.proofs.lengths.by_lengths.Goals as goal

pub returns : goal.returns
returns g c =
    let a = c.args in
    let n = a.q.now.graph.parties in
    let r = c.find_map.ensures.runs in
    let up = rw (r.1, c.min.ensures) at (range_runs r.0 r.0.seen) in
    first_told _ n a.from a.d c.find_map.result
    (first_given r.0 _ _ (λ x o. goal.F-post g a.telling (x + 1) o) (λ x o h e. search rules) a.from _ up c.find_map.result r.2)
