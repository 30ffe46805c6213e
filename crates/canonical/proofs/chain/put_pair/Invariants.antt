-- Invariant: the records of the kinds at the places below `place` are written, and `next` is the number of the one after them.
use Rattle.std.proofs.Common.{◌≡◌, List, ℕ, ◌+◌, ◌-◌, ◌*◌, length}
use Rattle.fields.specs.promises.Writing.{put}
use Rattle.canonical.specs.promises.Masks.{pair_bytes}
use Rattle.canonical.specs.declared.chain.Chain.{Chain}
use Rattle.canonical.proofs.CountLaws.{kinds_to}
use Rattle.canonical.proofs.chain.put_pair.Given as goal

pub record PairTo (out₀ : List ℕ) (chain : Chain) (target mask number : ℕ) (out : List ℕ) (next place : ℕ) : Type 0 where
  pub size : length out ≡ length out₀
  pub count : next ≡ number + length (kinds_to chain.kinds.labels mask place)
  pub bytes : out
      ≡ put out₀ (chain.base + 5 * (number - 1)) (pair_bytes chain.end number chain.owner target (kinds_to chain.kinds.labels mask place))

abbrev pub invariant-loop-place : goal.invariant-loop-place
invariant-loop-place l = PairTo l.initial.out l.chain l.target l.mask l.number l.out l.next l.place
