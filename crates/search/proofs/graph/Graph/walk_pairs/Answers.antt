use Rattle.std.proofs.Common.{◌≡◌, drop, arith}
use Rattle.search.specs.Word.{symbols_in}
use Rattle.search.proofs.WalkPairLaws.{walks_end, walks_back, walks_cover, symbols_end, symbols_back_lem}
use Rattle.search.proofs.graph.Graph.walk_pairs.Goals as goal

pub loop-at-init : goal.loop-at-init
loop-at-init c =
    let g = c.args.self.now in
    rw (symbols_end c.args.w.short) (walks_end g.parties g.table c.unmoved-row.result c.unmoved-row.ensures)

pub loop-at-preserved : goal.loop-at-preserved
loop-at-preserved c =
    let g = c.args.self.now in
    let w = c.args.w in
    let l = c.loop-at in
    rw (symbols_back_lem w.short l.at c.loop-at-test.true l.auto.at, ← c.symbol.ensures)
    (walks_back g.parties g.table _ (drop l.at (symbols_in w.word)) l.row c.step_back-row.result l.invariant c.step_back-row.ensures)

pub returns : goal.returns
returns c =
    let g = c.args.self.now in
    let l = c.loop-at in
    let z : l.at ≡ 0 = omega (arith, c.loop-at-test.false) in
    walks_cover g.parties g.table (symbols_in c.args.w.word) l.row (rw z at l.invariant)
