-- Invariant: the mask is filled for the letters below i.
use Rattle.masks.proofs.MaskLaws.{Filled}
use Rattle.letters.specs.promises.Letters.{numbers}
use Rattle.letters.specs.promises.Writing.{letter_on}
use Rattle.letters.proofs.legend.Legend.letters_in.Given as goal

abbrev pub invariant-loop-i : goal.invariant-loop-i
invariant-loop-i l = Filled (letter_on (numbers l.self.symbols) l.self.span.base l.self.classes l.mask) l.i l.letters
