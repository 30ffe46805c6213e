use Rattle.std.proofs.Common.{rules, sym, ap, ◌∙◌, set}
use Rattle.std.proofs.lemmas.List.{get_or-map}
use Rattle.classes.proofs.LengthLaws.{reading_next}
use Rattle.classes.proofs.lengths.in_symbols.Goals as goal

pub loop-i-preserved : goal.loop-i-preserved
loop-i-preserved c =
    let l = c.loop-i in
    let put = c.put-read.ensures in
    let read = get_or-map (λ x. x.number) c.args.symbols.now c.symbol.result.number c.index-symbols-symbol.result 0 (search rules) in
    let stored = put.symbols ∙ ap (set l.read.word.symbols l.i) (sym read) in
    reading_next c.args.w.short l.invariant c.loop-i-test.true put.len (rw c.symbol.ensures at stored)
