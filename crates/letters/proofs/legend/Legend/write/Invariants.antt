-- Invariant: the first u rows are written.
use Rattle.std.proofs.Common.{◌≡◌, length}
use Rattle.limits.specs.Limits.{most_parties}
use Rattle.letters.specs.promises.Writing.{Written}
use Rattle.letters.proofs.legend.Legend.write.Given as goal

abbrev pub invariant-loop-u : goal.invariant-loop-u
invariant-loop-u l = record { full : length l.rows ≡ most_parties; right : Written l.self l.g l.u (record { rows = l.rows }) }
