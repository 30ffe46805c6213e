-- Invariant: the chain was followed to record `at`, the marks and the row say what was reached so far (`Here`, ChainLaws).
-- Measure: the marks that are clear.
use Rattle.std.proofs.Common.{◌≡◌, List, ℕ, length}
use Rattle.house_layout.specs.Layout.{records_of}
use Rattle.house_file.specs.promises.Reading.{RecordMarks}
use Rattle.house_file.proofs.Clear.{clear}
use Rattle.house_file.proofs.ChainLaws.{Here}
use Rattle.house_file.proofs.chain.Frame.read_chain.Given as goal

abbrev pub invariant-loop-at : goal.invariant-loop-at
invariant-loop-at l = (length l.marks ≡ 8928)
    × ((before : List ℕ) → RecordMarks l.initial.marks before → Here l.self.file.now l.u before l.marks l.row l.at)

abbrev pub decreases-loop-at : goal.decreases-loop-at
decreases-loop-at l = clear l.marks (records_of l.self.file.now)
