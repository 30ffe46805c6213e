-- Each word's row is joined to the row, so that it covers the words read (CoverLaws).
-- Invariant: the row covers the words read, and those ahead are the rest.
use Rattle.std.proofs.Common.{List, ℕ}
use Rattle.rule_bytes.specs.promises.Reading.{TermAt}
use Rattle.mining.proofs.CoverLaws.{WalkedTo}
use Rattle.mining.proofs.take.term_pairs.Given as goal

abbrev pub invariant-loop-word : goal.invariant-loop-word
invariant-loop-word l = (t : List (List ℕ)) (s : List ℕ) → TermAt l.list l.at t s → WalkedTo l.fn.a l.word-iterator l.row t s
