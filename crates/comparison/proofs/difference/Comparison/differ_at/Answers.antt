-- Bytes that passed the check are those of a list.
use Rattle.graph.proofs.ShownLaws.{shown_by}
use Rattle.rules.proofs.PermitLaws.{checked_list}
use Rattle.comparison.proofs.difference.Comparison.differ_at.Goals as goal

pub meets_list-by_list-requires : goal.meets_list-by_list-requires
meets_list-by_list-requires c =
    let x = c.args.self.now in
    let m = shown_by x.archive.now in
    checked_list m.0 x.archive.now m.1 x.list.now x.bytes x.checked
