-- Invariant: the parties before u have images below the graph's parties, no two the same, all in the mask (MapLaws).
use Rattle.std.proofs.Common.{◌≡◌, length}
use Rattle.maps.proofs.MapLaws.{Used}
use Rattle.maps.proofs.carry.Map.one_to_one.Given as goal

abbrev pub invariant-loop-u : goal.invariant-loop-u
invariant-loop-u l = (length l.image ≡ 32) × Used l.g.parties l.image l.used l.u
