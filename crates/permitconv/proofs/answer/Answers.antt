-- What is printed is what the report wrote from the text's first byte on.
use Rattle.std.proofs.Common.{OnOk, ℕ, List, subst}
use Rattle.std.specs.Io.KnownBytes.{Appends}
use Rattle.report.proofs.ReportLaws.{wrote_text}
use Rattle.permitconv.proofs.answer.Goals as goal

pub returns : goal.returns
returns g c =
    subst (λ (t : List ℕ). OnOk c.print.result (Appends (g.W.Write.contents c.args.out.now) (g.W.Write.contents c.print.new.out) t))
    (wrote_text c.write_report-end.ensures.wrote)
    c.print.ensures
