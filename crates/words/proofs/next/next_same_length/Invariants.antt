-- From the last place down a greater symbol is sought at each (NextLaws).
-- Invariant: the symbols before place i are kept, zeros stand after, and no place from i on led to a word.
use Rattle.words.proofs.NextLaws.{RaiseTurn}
use Rattle.words.proofs.next.next_same_length.Given as goal

abbrev pub invariant-loop-i : goal.invariant-loop-i
invariant-loop-i l = RaiseTurn l.q l.fn.w.word l.t.word l.i
