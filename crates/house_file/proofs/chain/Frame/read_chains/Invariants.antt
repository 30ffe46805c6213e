-- Invariant: the chains below party u were followed, the marks and the rows say what they have (`Upto`, DecodeLaws).
use Rattle.std.proofs.Common.{◌≡◌, List, ℕ, length}
use Rattle.masks.specs.declared.Table.{Table}
use Rattle.house_file.proofs.DecodeLaws.{Upto}
use Rattle.house_file.proofs.chain.Frame.read_chains.Given as goal

pub record ChainsTo (f : List ℕ) (marks : List ℕ) (kinds : Table) (u : ℕ) : Type 0 where
  pub places : length marks ≡ 8928
  pub upto : Upto f u marks kinds

abbrev pub invariant-loop-u : goal.invariant-loop-u
invariant-loop-u l = ChainsTo l.self.file.now l.marks l.kinds l.u
