use Rattle.std.proofs.Common.{◌+◌, refl, sym, ◌∙◌, arith}
use Rattle.words.proofs.NextLaws.{symbol_places}
use Rattle.classes.proofs.OpenLaws.{opens_with, opens_without, search_closed}
use Rattle.classes.proofs.pairs.PairsInLetters.letters_open.Goals as goal
use Rattle.classes.proofs.pairs.PairsInLetters.letters_open.Goals.{then-is_in+then-is_ok, then-is_in+else-is_ok, else-is_in}

pub loop-c-preserved : goal.loop-c-preserved
loop-c-preserved c =
    let a = c.args in
    let l = c.loop-c in
    let q = a.self.now.pairs in
    let own = c.own-own.ensures in
    let skip = opens_without q a.w.word a.at a.low l.c l.leads l.invariant in
    elim c.if-is_in.branch [
      | then-is_in+then-is_ok w ↦ rw (w.leads-is, w.with-leads.ensures) (opens_with q a.w.word a.at a.low l.c l.leads l.invariant)
      | then-is_in+else-is_ok w ↦ rw w.leads-is (skip (λ fixed k places size.
          let put = w.put.ensures in
          let p = symbol_places a.w.word l.c put.len put.symbols fixed 0 k places size c.requires.place in
          let closed = search_closed c.own-own.result (record { word = w.put.result; fixed = a.at + 1 }) fixed l.c k refl p size
          w.search.result w.search.ensures (sym w.is_ok.ensures.value ∙ w.if-is_ok.false) in
          rw (own.graph, own.first, own.second) at closed))
      -- a letter that does not follow the one before it
      | else-is_in w ↦ rw w.leads-is (skip (λ fixed k places size.
          c.letters_after-after.ensures a.self.now refl fixed k places size l.c (omega arith) (omega (arith, c.loop-c-test.true, c.requires.few))
          (sym c.is_in.ensures ∙ w.if-is_in.false)))
    ]
