-- Invariant: the records of the parties below u are written.
use Rattle.std.proofs.Common.{◌≡◌, List, ℕ, ◌+◌, ◌*◌, length}
use Rattle.fields.specs.promises.Writing.{put}
use Rattle.canonical.specs.promises.Masks.{matter_by}
use Rattle.canonical.specs.declared.matter.MatterIn.{MatterIn}
use Rattle.canonical.proofs.WriteLaws.{records_to}
use Rattle.canonical.proofs.numbered.Numbered.put_records.Given as goal

pub record RecordsTo (out₀ : List ℕ) (m : MatterIn) (out : List ℕ) (u : ℕ) : Type 0 where
  pub size : length out ≡ length out₀
  pub bytes : out ≡ put out₀ (8 + 2 * m.header.parties) (records_to (matter_by m) u)

abbrev pub invariant-loop-u : goal.invariant-loop-u
invariant-loop-u l = RecordsTo l.initial.out l.self.matter l.out l.u
