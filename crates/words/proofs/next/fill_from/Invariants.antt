-- One place is done each turn (NextLaws).
-- Invariant: the places from `from` to i are at their least symbols, and the rest, zeros, still lead to a word.
use Rattle.words.proofs.NextLaws.{FillTurn}
use Rattle.words.proofs.next.fill_from.Given as goal

abbrev pub invariant-loop-i : goal.invariant-loop-i
invariant-loop-i l = FillTurn l.q l.fn.w.word l.from l.t.word l.i
