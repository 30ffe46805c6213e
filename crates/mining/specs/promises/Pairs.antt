-- The pairs by number, as 01 numbers scratch: byte 32a + b is for the pair (a, b).
use Rattle.std.specs.Prelude.{ℕ, ◌-◌, ◌/◌, ◌%◌, Bool, List, map}
use Rattle.lists.specs.Lists.{filter_by, up_from}
use Rattle.limits.specs.Limits.{most_parties, pair_numbers}
use Rattle.rebac.specs.Matter.{Pair, pair}
use Rattle.graph.specs.Legal.{is_pair}

abbrev pub pair_at : ℕ → Pair
pair_at k = pair (k / most_parties) (k % most_parties)

abbrev pub is_pair_at : ℕ → ℕ → Bool
is_pair_at n k = is_pair n (k / most_parties) (k % most_parties)

-- the pairs of n parties from number k on, in order
unfoldable pub pairs_from : ℕ → ℕ → List Pair
pairs_from n k = map pair_at (filter_by (is_pair_at n) (up_from k (pair_numbers - k)))
