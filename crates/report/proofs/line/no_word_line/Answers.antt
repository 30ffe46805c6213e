-- The word, the pair, the words after it.
use Rattle.std.proofs.Common.{arith}
use Rattle.report.specs.Report.{verdict_line}
use Rattle.fields.proofs.WroteLaws.{wrote_three}
use Rattle.report.proofs.line.no_word_line.Goals as goal

pub returns : goal.returns
unfolding verdict_line
returns c = wrote_three c.put_bytes-word.ensures c.put_pair-end.ensures c.put_bytes.ensures (omega (arith, c.requires))
