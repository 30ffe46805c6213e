-- Kinds of records as places of a mask.
use Rattle.std.specs.Prelude.{ℕ, ◌+◌, ◌-◌, Bool, not, ◌&&◌, eqb, ltb}
use Rattle.lists.specs.Lists.{pick}
use Rattle.masks.specs.promises.Mask.{test_bit}
use Rattle.house_layout.specs.Layout.{unknown_from, unknown_kind, permit_kind}

-- the place of a permit in a mask of kinds: the last
abbrev pub permit_bit : ℕ
permit_bit = 31

-- the place of unknown label 0; the labels stand below
abbrev pub unknown_bit : ℕ
unknown_bit = 8

-- the place of a kind byte in a mask of kinds: a label's is its number, unknown label l's is 8 + l, a permit's 31
abbrev pub bit_of : ℕ → ℕ
bit_of k = pick (eqb k permit_kind) permit_bit (pick (ltb k unknown_from) k (unknown_bit + (k - unknown_from)))

-- the kind of the same label that says the other: unknown for known, known for unknown
abbrev pub opposite_kind : ℕ → ℕ
opposite_kind k = pick (ltb k unknown_from) (unknown_kind k) (k - unknown_from)

-- a mask has that kind; for a permit there is none
unfoldable pub contrary_in : ℕ → ℕ → Bool
contrary_in mask k = not (eqb k permit_kind) && test_bit mask (bit_of (opposite_kind k))
