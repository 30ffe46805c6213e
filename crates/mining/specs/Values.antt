-- A pair as the calls hand it out, and the pair that such a value names.
use Rattle.rebac.specs.Matter.{Pair, pair}
use Rattle.mining.specs.declared.build.Pair.{Pair as PairValue}

abbrev pub pair_value : Pair → PairValue
pair_value p = record { first = p.first; second = p.second }

abbrev pub pair_in : PairValue → Pair
pair_in p = pair p.first p.second
