-- The list is the text's, or it is too long.
use Rattle.std.proofs.Common.{arith, length-take-le}
use Rattle.house_layout.specs.declared.reply.Refusal.TheVariants.{Output}
use Rattle.graph.specs.FileMatter.{matter_of}
use Rattle.conversion.specs.Calls.{list_of}
use Rattle.report.proofs.ReportLaws.{list_is, printed_part, refused_fits}
use Rattle.report.proofs.report.list_part.Goals as goal

pub list_text-requires : goal.list_text-requires
list_text-requires c =
    let h = c.if-k-le-LIST_LIMIT.true in
    let size = length-take-le c.args.k c.args.list.now (omega (arith, h, c.requires.inside)) in
    ((_, list_is c.requires.file.0 c.requires.file.1 h), omega (arith, h, c.requires.room, size))

pub returns-then-k-le-LIST_LIMIT : goal.returns-then-k-le-LIST_LIMIT
returns-then-k-le-LIST_LIMIT c =
    λ f L.
    let h = c.if-k-le-LIST_LIMIT.true in
    let e = c.list_text.ensures (list_of (matter_of f)) (list_is f L h) in
    rw (printed_part (matter_of f) c.args.k h) (record { bytes = e.0; place = omega (arith, e.1) })

pub refused_line-requires : goal.refused_line-requires
refused_line-requires c = omega (arith, refused_fits Output, c.requires.room)
