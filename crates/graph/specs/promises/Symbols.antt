-- The symbols that hold between two parties, by the masks of kinds.
use Rattle.std.specs.Prelude.{ℕ, zero, suc, ◌+◌, ◌/◌, ◌%◌, ◌≤◌, ◌<◌, ◌≡◌, Bool, not, ◌&&◌}
use Rattle.lists.specs.Lists.{member}
use Rattle.limits.specs.Limits.{most_parties, most_labels}
use Rattle.masks.specs.promises.Mask.{test_bit}
use Rattle.masks.specs.promises.Table.{mask_at}
use Rattle.masks.specs.declared.Table.{Table}
use Rattle.rebac.specs.Matter.{Matter}
use Rattle.rebac.specs.Symbols.{kinds}
use Rattle.house_layout.specs.promises.Kinds.{unknown_bit}
use Rattle.graph.specs.declared.words.WordRule.{WordRule}
use Rattle.graph.specs.FileMatter.{Limits}

-- a mask of kinds has neither the label nor the unknown label
abbrev pub absent_in : ℕ → ℕ → Bool
absent_in mask l = not (test_bit mask l) && not (test_bit mask (unknown_bit + l))

-- a symbol of this kind holds between two parties with the kinds `out` one way and `back` the other
abbrev pub kind_in : ℕ → ℕ → ℕ → ℕ → Bool
kind_in out back l zero = test_bit out l
kind_in out back l (suc zero) = absent_in out l
kind_in out back l (suc (suc zero)) = test_bit back l
kind_in out back l (suc (suc (suc k))) = absent_in back l

unfoldable pub symbol_in : ℕ → ℕ → ℕ → ℕ → Bool
symbol_in language out back s = member (s % 4) (kinds language) && kind_in out back (s / 4) (s % 4)

-- the numbers by which the enlarged graph is made are within 01's limits
pub record GraphLimits (n : ℕ) (words : WordRule) : Type 0 where
  pub parties : n ≤ most_parties
  pub labels : words.labels ≤ most_labels

-- the numbers and the masks of kinds stand for the matter's relations and unknown ones
pub record Records (M : Matter) (n : ℕ) (words : WordRule) (k : Table) : Type 0 where
  pub limits : Limits M
  pub parties : n ≡ M.parties
  pub labels : words.labels ≡ M.labels
  pub language : words.language ≡ M.language
  pub edges : (u v l : ℕ) → l < M.labels → test_bit (mask_at k u v) l ≡ M.edge u v l
  pub unknowns : (u v l : ℕ) → l < M.labels → test_bit (mask_at k u v) (unknown_bit + l) ≡ M.unknown u v l
