use Rattle.std.proofs.Common.{ℕ, ◌-◌, Bool, sym, ◌∙◌}
use Rattle.masks.specs.promises.Table.{mask_at}
use Rattle.masks.proofs.MaskLaws.{filled_none, filled_with, filled_without}
use Rattle.search.specs.promises.Search.{place_on, place_at}
use Rattle.search.proofs.graph.Graph.last_parties.Goals as goal
use Rattle.search.proofs.graph.Graph.last_parties.Goals.{then-allows, else-allows}

pub loop-v-init : goal.loop-v-init
loop-v-init c = filled_none _

pub loop-v-preserved : goal.loop-v-preserved
loop-v-preserved c =
    let l = c.loop-v in
    let a = c.args in
    let f = a.form.now in
    let p : ℕ → Bool = λ x. place_on (place_at f.word.word f.fixed (f.word.word.len - 1)) (mask_at a.self.now.table x a.target) in
    elim c.if-allows.branch [
      | then-allows w ↦ rw (w.ends-is ∙ w.with-ends.ensures)
          (filled_with p l.v l.ends l.invariant (sym c.allows.ensures ∙ w.if-allows.true))
      | else-allows w ↦ rw w.ends-is (filled_without p l.v l.ends l.invariant (sym c.allows.ensures ∙ w.if-allows.false))
    ]
