-- The letters that may follow each other on a path.
use Rattle.std.specs.Prelude.{ℕ, ◌/◌, ◌%◌, ◌<◌, ◌≡◌, true, length}
use Rattle.limits.specs.Limits.{most_parties, symbol_count, pair_numbers}
use Rattle.masks.specs.promises.Mask.{test_bit}
use Rattle.masks.specs.promises.Table.{mask_in, mask_at}
use Rattle.masks.specs.declared.Row.{Row}
use Rattle.masks.specs.declared.Table.{Table}

-- the mask has the letters that lead from y to a party below k other than x
abbrev pub LeadsPast : Table → ℕ → ℕ → ℕ → ℕ → Type 0
LeadsPast g x y k letters =
    (z c : ℕ) → z < k → (z ≡ x → ⊥) → test_bit (mask_at g y z) c ≡ true → test_bit letters c ≡ true

-- the row in which the letters `after` follow each letter below k of the mask too
pub record AfterAdded (row : Row) (mask after k : ℕ) (r : Row) : Type 0 where
  pub full : length r.masks ≡ symbol_count
  pub kept : (b c : ℕ) → test_bit (mask_in row b) c ≡ true → test_bit (mask_in r b) c ≡ true
  pub added : (b c : ℕ) → b < k → test_bit mask b ≡ true → test_bit after c ≡ true → test_bit (mask_in r b) c ≡ true

-- a letter that leads on to a third party, after letter b of a pair with a number below k, follows b in the row
abbrev pub FollowsBelow : Table → ℕ → Row → Type 0
FollowsBelow g k row =
    (i z b c : ℕ) → i < k → z < most_parties → (z ≡ i / most_parties → ⊥) → b < symbol_count
    → test_bit (mask_at g (i / most_parties) (i % most_parties)) b ≡ true → test_bit (mask_at g (i % most_parties) z) c ≡ true
    → test_bit (mask_in row b) c ≡ true

-- the same of all pairs
abbrev pub Follows : Table → Row → Type 0
Follows g row = FollowsBelow g pair_numbers row
