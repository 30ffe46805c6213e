-- Each symbol in turn, put in where it holds.
use Rattle.std.proofs.Common.{sym, ◌∙◌}
use Rattle.masks.proofs.MaskLaws.{filled_none, filled_with, filled_without}
use Rattle.graph.specs.promises.Symbols.{symbol_in}
use Rattle.graph.proofs.words.WordRule.symbols.Goals.{then-symbol_in, else-symbol_in}
use Rattle.graph.proofs.words.WordRule.symbols.Goals as goal

pub loop-s-init : goal.loop-s-init
loop-s-init c = filled_none _

pub loop-s-preserved : goal.loop-s-preserved
loop-s-preserved c =
    let l = c.loop-s in
    let p = symbol_in c.args.self.language c.args.out c.args.back in
    let said = sym c.symbol_in.ensures in
    elim c.if-symbol_in.branch [
      | then-symbol_in w ↦ rw (w.mask-is ∙ w.with-mask.ensures) (filled_with p l.s l.mask l.invariant (said ∙ w.if-symbol_in.true))
      | else-symbol_in w ↦ rw w.mask-is (filled_without p l.s l.mask l.invariant (said ∙ w.if-symbol_in.false))
    ]
