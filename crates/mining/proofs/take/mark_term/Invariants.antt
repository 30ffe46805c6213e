-- The pairs by number, each marked where it meets the term. One that cannot walk each of its words does not.
-- Invariant: the pairs before number k that meet the term are marked, beside the old marks.
use Rattle.std.proofs.Common.{List, ℕ}
use Rattle.rule_bytes.specs.promises.Reading.{TermAt}
use Rattle.rules.specs.promises.Meets.{meets_term}
use Rattle.mining.proofs.MarkLaws.{MarkedTo}
use Rattle.mining.proofs.take.mark_term.Given as goal

abbrev pub invariant-loop-k : goal.invariant-loop-k
invariant-loop-k l = (t : List (List ℕ)) (s : List ℕ) → TermAt l.list l.at t s
    → MarkedTo (λ u v. meets_term l.a.graph.parties l.a.graph.table u v t) l.a.graph.parties l.initial.row l.row l.k
