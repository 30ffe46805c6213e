use Rattle.std.proofs.Common.{◌≡◌, suc, ◌+◌, ◌-◌, get_or, arith}
use Rattle.search.proofs.RoomLaws.{within_or}
use Rattle.word_test.specs.promises.Walk.{Onward}
use Rattle.word_test.proofs.WayLaws.{covers_start, covers_step, crowded_start, crowded_step, crowded_none}
use Rattle.word_test.proofs.back.SearchBack.walked.Goals as goal

pub loop-at-init : goal.loop-at-init
loop-at-init c =
    let a = c.args in
    let b = a.self.now in
    let z : a.from - a.from ≡ 0 = omega arith in
    record {
      covers = rw z (covers_start b.graph.parties b.graph.table b.word.word a.mask a.from a.visited);
      crowded = rw z (crowded_start b.graph.parties b.graph.table b.word.word a.mask a.from a.visited);
    }

pub loop-at-preserved : goal.loop-at-preserved
loop-at-preserved c =
    let l = c.loop-at in
    let a = c.args in
    let b = a.self.now in
    let more = c.parties_onward-parties.result in
    let e : l.at + 1 - a.from ≡ suc (l.at - a.from) = omega arith in
    let i : a.from + (l.at - a.from) ≡ l.at = omega arith in
    let on : Onward b.graph.parties b.graph.table (get_or b.word.word.symbols (a.from + (l.at - a.from)) 0) l.parties a.visited
    b.graph.parties more =
    rw (i, ← c.symbol.ensures) c.parties_onward-parties.ensures in
    let cover = covers_step b.graph.parties b.graph.table b.word.word a.mask a.from a.visited (l.at - a.from) l.parties more
    l.invariant.covers on in
    let joined = within_or l.all more in
    record {
      covers = rw e cover;
      crowded = rw e
          (crowded_step b.graph.parties b.graph.table b.word.word a.mask a.from a.visited (l.at - a.from) more l.all _ joined.0
          joined.1 cover
          l.invariant.crowded);
    }

pub returns-then-all-to : goal.returns-then-all-to
returns-then-all-to c =
    let l = c.loop-at in
    let a = c.args in
    let b = a.self.now in
    let q : l.at ≡ a.to = omega arith in
    crowded_none b.graph.parties b.graph.table b.word.word a.mask a.from a.visited (a.to - a.from) l.all c.if-all-to.true (rw q at
    l.invariant.crowded)
