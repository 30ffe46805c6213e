-- What passes the test of a pair is one.
use Rattle.std.proofs.Common.{sym, ◌∙◌}
use Rattle.graph.proofs.LegalLaws.{pair_of}
use Rattle.graph.proofs.archive.Archive.pair.Goals as goal

pub invariant_of-result : goal.invariant_of-result
invariant_of-result c = record { is_pair = pair_of _ _ _ (sym c.is_pair.ensures ∙ c.if-not-is_pair.false) }
