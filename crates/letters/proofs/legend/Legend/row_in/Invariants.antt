-- Invariant: the first v masks are written (WritingLaws).
use Rattle.std.proofs.Common.{◌≡◌, length}
use Rattle.limits.specs.Limits.{most_parties}
use Rattle.letters.specs.promises.Writing.{RowWritten}
use Rattle.letters.proofs.legend.Legend.row_in.Given as goal

abbrev pub invariant-loop-v : goal.invariant-loop-v
invariant-loop-v l = record { full : length l.written.masks ≡ most_parties; right : RowWritten l.self l.row l.v l.written }
