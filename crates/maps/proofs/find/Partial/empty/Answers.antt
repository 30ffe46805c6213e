-- No party of an empty map has an image.
use Rattle.maps.proofs.MapLaws.{none_has_image}
use Rattle.maps.proofs.find.Partial.empty.Goals as goal

pub invariant_of-result : goal.invariant_of-result
invariant_of-result c = record { within = λ u v e. absurd (none_has_image 32 u v e) }
