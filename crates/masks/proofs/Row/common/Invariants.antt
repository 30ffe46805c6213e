-- A place of `a & b` is set where both masks have it (BitLaws); past the row's end every mask is 0.
-- Invariant: the masks before u are the common ones, those from u on are the first row's.
use Rattle.std.proofs.Common.{◌≡◌, ℕ, ◌≤◌, ◌<◌, length, bit_and}
use Rattle.masks.specs.promises.Table.{mask_in}
use Rattle.masks.specs.declared.Row.{Row}
use Rattle.masks.proofs.Row.common.Given as goal

pub record Common (a b row : Row) (u : ℕ) : Type 0 where
  pub full : length row.masks ≡ 32
  pub done : (x : ℕ) → x < u → mask_in row x ≡ bit_and (mask_in a x) (mask_in b x)
  pub ahead : (x : ℕ) → u ≤ x → mask_in row x ≡ mask_in a x

abbrev pub invariant-loop-u : goal.invariant-loop-u
invariant-loop-u l = Common l.fn.self l.other l.row l.u
