-- Invariant: the mask has exactly those parties before v that have a step to the target at the last place.
use Rattle.masks.specs.promises.Table.{mask_at}
use Rattle.masks.proofs.MaskLaws.{Filled}
use Rattle.search.specs.promises.Search.{place_on, place_at}
use Rattle.search.proofs.graph.Graph.last_parties.Given as goal

abbrev pub invariant-loop-v : goal.invariant-loop-v
invariant-loop-v l = Filled (λ x. place_on (place_at l.form.word.word l.form.fixed l.last) (mask_at l.self.table x l.target)) l.v l.ends
