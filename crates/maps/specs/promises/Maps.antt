-- Maps of parties as certificates: what the check of a map says, and what follows of two pairs.
use Rattle.std.specs.Prelude.{ℕ, ◌≤◌, ◌<◌, ◌≡◌, true, List, get_or}
use Rattle.masks.specs.promises.Mask.{test_bit}
use Rattle.masks.specs.promises.Table.{mask_in, mask_at}
use Rattle.masks.specs.declared.Row.{Row}
use Rattle.masks.specs.declared.Table.{Table}
use Rattle.rebac.specs.Matter.{Pair}
use Rattle.rebac.specs.Paths.{path_count}
use Rattle.search.specs.promises.PairSearch.{table_graph}
use Rattle.maps.specs.declared.carry.Map.{Map}

-- the image of party u
abbrev pub image_of : Map → ℕ → ℕ
image_of m u = get_or m.image u 0

-- every symbol of the row to a party of the map stands in the image's row, to the image of that party
abbrev pub RowCarried : Row → Row → Map → Type 0
RowCarried row image m = (v s : ℕ) → v < m.parties → test_bit (mask_in row v) s ≡ true → test_bit (mask_in image (image_of m v)) s ≡ true

-- the map, one-to-one, carries every symbol of the table
abbrev pub CarriesSymbols : Table → Map → Type 0
CarriesSymbols t m = (u v s : ℕ) → u < m.parties → v < m.parties → test_bit (mask_at t u v) s ≡ true
    → test_bit (mask_at t (image_of m u) (image_of m v)) s ≡ true

-- the second pair has every word of the first, with at least as many paths
abbrev pub Covered : ℕ → Table → Pair → Pair → Type 0
Covered n t p q = (cap : ℕ) (w : List ℕ) → path_count (table_graph n t) cap p w ≤ path_count (table_graph n t) cap q w
