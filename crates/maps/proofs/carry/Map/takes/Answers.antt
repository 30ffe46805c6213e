-- A map that carries every symbol and takes the one pair to the other shows it (MapLaws).
use Rattle.std.proofs.Common.{sym, ◌∙◌, ◌<◌, arith, eqb-true}
use Rattle.maps.proofs.MapLaws.{map_covers}
use Rattle.maps.proofs.carry.Map.takes.Goals.{then-image_of-q, else-image_of-q}
use Rattle.maps.proofs.carry.Map.takes.Goals as goal

pub returns-then-image_of-q-2 : goal.returns-then-image_of-q-2
returns-then-image_of-q-2 c e =
    let q = c.args.q.now in
    let m = c.args.self.now in
    let h : q.first < m.parties = omega (arith, c.requires, q.is_pair.first) in
    rw (sym c.requires)
    (elim c.if-image_of-q.branch [
      | then-image_of-q w ↦ map_covers q.graph.table m (c.carries.ensures e) q.first q.second q.u q.v h
          (sym c.image_of.ensures.value ∙ w.if-image_of-q.true)
          (sym w.image_of-then-image_of-q.ensures.value ∙ eqb-true _ _ (sym w.value-is ∙ c.if-image_of-q-2.true))
      | else-image_of-q w ↦ absurd (w.if-image_of-q.false (eqb-true _ _ (sym w.value-is ∙ c.if-image_of-q-2.true)))
    ])
