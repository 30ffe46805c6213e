-- The pairs in turn: the first that is in the way ends it, else the terms' sizes add up to the list's, and the number comes last.
-- Invariant: the terms of the due pairs before number k stand from place 2 on within the limit (`Judging`).
use Rattle.conversion.proofs.JudgeLaws.{Judging}
use Rattle.conversion.proofs.verdict.judge_into.Given as goal

abbrev pub invariant-loop-k : goal.invariant-loop-k
invariant-loop-k l = Judging l.a l.limit l.initial.list l.list l.marks l.number l.size l.k
