-- The verdict's line, then nothing, or the list's part in the tail lent from the line's end on; the tail is as long as it needs.
use Rattle.std.proofs.Common.{◌≡◌, sym, ap, ℕ, arith, Ok, rules}
use Rattle.conversion.specs.declared.verdict.Verdict.TheVariants.{Convertible}
use Rattle.report.specs.Report.{list_part}
use Rattle.report.proofs.ReportLaws.{no_list, line_alone, list_here, whole}
use Rattle.report.proofs.report.write_report.Goals as goal

pub overflow_add-result : goal.overflow_add-result
overflow_add-result c =
    let f = c.args.file.now in
    let d : c.convert-v.result ≡ Ok (Convertible c.in-Ok-Convertible.k) = search rules in
    let p = c.list_part.ensures f (list_here f c.convert-v.ensures d) in
    let w = whole f c.convert-v.ensures.0 d c.requires c.first_line-end.ensures p in
    omega (arith, w.1.0)

pub returns-in-Ok-Convertible-clause-wrote : goal.returns-in-Ok-Convertible-clause-wrote
returns-in-Ok-Convertible-clause-wrote c =
    let f = c.args.file.now in
    let d : c.convert-v.result ≡ Ok (Convertible c.in-Ok-Convertible.k) = search rules in
    let p = c.list_part.ensures f (list_here f c.convert-v.ensures d) in
    let w = whole f c.convert-v.ensures.0 d c.requires c.first_line-end.ensures p in
    w.0

pub returns-in-Ok-Convertible-clause-prefix_length : goal.returns-in-Ok-Convertible-clause-prefix_length
returns-in-Ok-Convertible-clause-prefix_length c =
    let f = c.args.file.now in
    let d : c.convert-v.result ≡ Ok (Convertible c.in-Ok-Convertible.k) = search rules in
    let p = c.list_part.ensures f (list_here f c.convert-v.ensures d) in
    let w = whole f c.convert-v.ensures.0 d c.requires c.first_line-end.ensures p in
    w.1

pub returns-in_default : goal.returns-in_default
returns-in_default c =
    let n : (k : ℕ) → c.convert-v.result ≡ Ok (Convertible k) → ⊥ = search rules in
    let t = line_alone c.args.file.now (sym c.convert-v.ensures.0) (no_list _ _ n) c.first_line-end.ensures in
    record { wrote = t.0; prefix_length = t.1 }

pub returns-in_default-2-clause-wrote : goal.returns-in_default-2-clause-wrote
returns-in_default-2-clause-wrote c =
    (line_alone c.args.file.now (sym c.convert-v.ensures.0) (ap (list_part _) c.in_default.is) c.first_line-end.ensures).0

pub returns-in_default-2-clause-prefix_length : goal.returns-in_default-2-clause-prefix_length
returns-in_default-2-clause-prefix_length c =
    (line_alone c.args.file.now (sym c.convert-v.ensures.0) (ap (list_part _) c.in_default.is) c.first_line-end.ensures).1
