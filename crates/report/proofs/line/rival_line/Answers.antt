-- The word, the pair, the word before its rival, the rival, the line's end; each leaves the slice's length.
use Rattle.std.proofs.Common.{arith}
use Rattle.report.specs.Report.{verdict_line}
use Rattle.fields.proofs.WroteLaws.{wrote_five}
use Rattle.report.proofs.line.rival_line.Goals as goal

pub returns : goal.returns
unfolding verdict_line
returns c =
    wrote_five c.put_bytes-word.ensures c.put_pair-named.ensures c.put_bytes-rival.ensures c.put_pair-last.ensures
    c.put_bytes.ensures (omega (arith, c.requires))
