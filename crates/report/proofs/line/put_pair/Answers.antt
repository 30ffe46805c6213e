-- The first party's digits, a space, the second's.
use Rattle.report.specs.Report.{pair_text}
use Rattle.fields.proofs.WroteLaws.{wrote_three}
use Rattle.report.proofs.line.put_pair.Goals as goal

pub returns : goal.returns
unfolding pair_text
returns c = wrote_three c.put_decimal-first.ensures c.put_bytes-space.ensures c.put_decimal.ensures c.requires
