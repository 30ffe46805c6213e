-- The word, the number's digits, the line's end.
use Rattle.std.proofs.Common.{arith}
use Rattle.fields.proofs.WroteLaws.{wrote_three}
use Rattle.report.proofs.line.number_line.Goals as goal

pub returns : goal.returns
returns c = wrote_three c.put_bytes-digits.ensures c.put_decimal-end.ensures c.put_bytes.ensures (omega (arith, c.requires))
