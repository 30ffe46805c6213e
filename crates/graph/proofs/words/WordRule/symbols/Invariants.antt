-- Invariant: the mask is filled for the symbols below s.
use Rattle.masks.proofs.MaskLaws.{Filled}
use Rattle.graph.specs.promises.Symbols.{symbol_in}
use Rattle.graph.proofs.words.WordRule.symbols.Given as goal

abbrev pub invariant-loop-s : goal.invariant-loop-s
invariant-loop-s l = Filled (symbol_in l.self.language l.out l.back) l.s l.mask
