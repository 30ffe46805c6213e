-- Byte after byte, each by its bit.
-- Invariant: the bytes before place k are those of their bits, the others as they were.
use Rattle.std.proofs.Common.{◌≡◌}
use Rattle.fields.specs.promises.Writing.{put}
use Rattle.conversion.proofs.TableLaws.{bytes_to}
use Rattle.conversion.proofs.table.put_table.Given as goal

abbrev pub invariant-loop-k : goal.invariant-loop-k
invariant-loop-k l = l.scratch ≡ put l.initial.scratch 0 (bytes_to l.marks l.k)
