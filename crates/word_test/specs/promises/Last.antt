-- The last steps of a search back, over masks alone.
use Rattle.std.specs.Prelude.{ℕ, suc, ◌+◌, ◌-◌, not, ◌==◌, bit_and, count_ones}
use Rattle.lists.specs.Lists.{range}
use Rattle.lists.specs.Order.{only_if, sum_of, greatest_of}
use Rattle.masks.specs.promises.Mask.{test_bit, with_bit}
use Rattle.masks.specs.promises.Table.{mask_in}
use Rattle.masks.specs.declared.Row.{Row}
use Rattle.search.specs.promises.Last.{without}
use Rattle.word_test.specs.promises.Backward.{BackAs}
use Rattle.word_test.specs.declared.back.Back.{Back}

-- 1 where the mask has a party
abbrev pub some_of : ℕ → ℕ
some_of mask = only_if (not (mask == 0)) 1

-- the last two steps, from a party to which the second symbol leads from those of the mask
abbrev pub LastTwo : ℕ → ℕ → ℕ → ℕ → ℕ → Back → Type 0
LastTwo mask starts cap len deep r = BackAs cap (count_ones (bit_and mask starts)) deep (len - 2 + some_of mask) r

-- the last three: each candidate of the mask, from which the second symbol leads on as the row says
module _ (mask : ℕ) (row : Row) (visited starts : ℕ) where
  abbrev pub two_ways : ℕ → ℕ
  two_ways v = only_if (test_bit mask v) (count_ones (bit_and (without (mask_in row v) (with_bit visited v)) starts))

  abbrev pub two_far : ℕ → ℕ
  two_far v = only_if (test_bit mask v) (suc (some_of (without (mask_in row v) (with_bit visited v))))

  abbrev pub LastThree : ℕ → ℕ → ℕ → ℕ → Back → Type 0
  LastThree cap n len deep r = BackAs cap (sum_of two_ways (range n)) deep (len - 3 + greatest_of two_far (range n)) r
