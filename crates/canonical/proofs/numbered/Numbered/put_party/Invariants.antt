-- Invariant: the records of the party's entries for the targets below v are written, and `next` is the number of the one after them.
use Rattle.std.proofs.Common.{◌≡◌, List, ℕ, ◌+◌, ◌-◌, ◌*◌, length}
use Rattle.masks.specs.declared.Row.{Row}
use Rattle.fields.specs.promises.Writing.{put}
use Rattle.canonical.specs.promises.Masks.{chain_bytes, numbers_in}
use Rattle.canonical.specs.declared.chain.Chain.{Chain}
use Rattle.canonical.proofs.CountLaws.{row_to}
use Rattle.canonical.proofs.numbered.Numbered.put_party.Given as goal

pub record PartyTo (out₀ : List ℕ) (chain : Chain) (number : ℕ) (row : Row) (out : List ℕ) (next v : ℕ) : Type 0 where
  pub size : length out ≡ length out₀
  pub count : next ≡ number + length (row_to chain.kinds.labels row chain.owner v)
  pub bytes : out
      ≡ put out₀ (chain.base + 5 * (number - 1)) (chain_bytes chain.end number (row_to chain.kinds.labels row chain.owner v))

abbrev pub invariant-loop-v : goal.invariant-loop-v
invariant-loop-v l = PartyTo l.initial.out l.chain (numbers_in l.self.firsts.now l.u) l.row l.out l.next l.v
