-- Invariant: the heads of the parties below u are written, two bytes each.
use Rattle.std.proofs.Common.{◌≡◌, List, ℕ, length}
use Rattle.fields.specs.promises.Writing.{put}
use Rattle.canonical.specs.Canonical.{heads_by}
use Rattle.canonical.specs.promises.Masks.{numbers_in}
use Rattle.canonical.specs.declared.count.Firsts.{Firsts}
use Rattle.canonical.proofs.numbered.Numbered.put_heads.Given as goal

pub record HeadsTo (out₀ : List ℕ) (f : Firsts) (out : List ℕ) (u : ℕ) : Type 0 where
  pub size : length out ≡ length out₀
  pub bytes : out ≡ put out₀ 8 (heads_by (numbers_in f) u)

abbrev pub invariant-loop-u : goal.invariant-loop-u
invariant-loop-u l = HeadsTo l.initial.out l.self.firsts.now l.out l.u
