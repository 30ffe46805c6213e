use Rattle.std.proofs.Common.{◌≡◌, ◌+◌, List, ◌∷◌, sym, ◌∙◌}
use Rattle.rebac.specs.promises.Forms.{Place}
use Rattle.lists.proofs.Cases.{both}
use Rattle.search.specs.promises.Search.{place_at, places_from}
use Rattle.search.proofs.SearchLaws.{places_cons, short_fits}
use Rattle.search.proofs.WalkLaws.{never_steps, within_with, no_step, covers_with, covers_without, target_lost}
use Rattle.search.proofs.search.Search.parties_before.Goals as goal
use Rattle.search.proofs.search.Search.parties_before.Goals.{then-v-self-via-then-v-self, then-v-self-via-else-v-self+then-has}
use Rattle.search.proofs.search.Search.parties_before.Goals.{then-is_some, else-is_some}

pub loop-v-preserved-then-v-self : goal.loop-v-preserved-then-v-self
loop-v-preserved-then-v-self c =
    let a = c.args in
    let s = a.self.now in
    let w = s.form.word in
    let p = c.requires in
    let l = c.loop-v in
    let x : Place = place_at w.word s.form.fixed a.at in
    let ys : List Place = places_from w.word s.form.fixed (a.at + 1) in
    let xs : List Place = places_from w.word s.form.fixed a.at in
    let q : xs ≡ x ∷ ys = places_cons w.word s.form.fixed a.at p.place (short_fits w.short) in
    covers_without s.graph.parties s.graph.table s.target xs a.visited l.parties l.v l.invariant
    elim c.then-v-self.branch [
      | then-v-self-via-then-v-self b ↦
          (λ more m o. rw (b.if-v-self.true, q) (target_lost s.graph.parties s.graph.table s.target x ys s.end more))
      | then-v-self-via-else-v-self+then-has b ↦ (λ more m o. both (m l.v (sym b.has.ensures ∙ b.if-has.true)) o)
    ]

pub loop-v-preserved : goal.loop-v-preserved
loop-v-preserved c =
    let a = c.args in
    let s = a.self.now in
    let w = s.form.word in
    let p = c.requires in
    let l = c.loop-v in
    let x : Place = place_at w.word s.form.fixed a.at in
    let ys : List Place = places_from w.word s.form.fixed (a.at + 1) in
    let xs : List Place = places_from w.word s.form.fixed a.at in
    let q : xs ≡ x ∷ ys = places_cons w.word s.form.fixed a.at p.place (short_fits w.short) in
    elim c.if-is_some.branch [
      | then-is_some b ↦ rw (b.parties-is ∙ b.with-parties.ensures)
          (covers_with s.graph.parties s.graph.table s.target xs a.visited l.parties l.v l.invariant)
      | else-is_some b ↦ rw b.parties-is (covers_without s.graph.parties s.graph.table s.target xs a.visited l.parties l.v l.invariant
          (λ more m o. rw q (no_step s.graph.parties s.graph.table s.target ys a.visited a.mask l.v x p.covers
          (never_steps x _ a.mask s.graph.parties c.first_step.result c.first_step.ensures (sym c.is_some.ensures ∙ b.if-is_some.false))
          _ (within_with a.visited more l.v m))))
    ]
