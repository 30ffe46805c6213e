-- One letter is read each turn (LengthLaws).
-- Invariant: the letters before place i are read.
use Rattle.letters.specs.promises.Letters.{numbers}
use Rattle.classes.proofs.LengthLaws.{Reading}
use Rattle.classes.proofs.lengths.in_symbols.Given as goal

abbrev pub invariant-loop-i : goal.invariant-loop-i
invariant-loop-i l = Reading (numbers l.symbols) l.fn.w.word l.read.word l.i
