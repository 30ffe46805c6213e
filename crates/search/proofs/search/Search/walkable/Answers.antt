use Rattle.std.proofs.Common.{◌≡◌, ◌+◌, ◌-◌, arith}
use Rattle.search.proofs.SearchLaws.{places_cons, places_end, short_fits}
use Rattle.search.proofs.WalkLaws.{covers_end}
use Rattle.search.proofs.RoomLaws.{within_or, crowded_end, crowded_step, walked_short}
use Rattle.search.proofs.search.Search.walkable.Goals as goal

pub loop-at-init : goal.loop-at-init
loop-at-init c =
    let a = c.args in
    let s = a.self.now in
    let w = s.form.word in
    let q = places_end w.word s.form.fixed w.word.len (omega arith) (short_fits w.short) in
    record {
      after = c.requires;
      covers = rw (c.with-mask.ensures, q) (covers_end s.graph.parties s.graph.table s.target a.visited);
      crowded = rw q (crowded_end s.graph.parties s.graph.table s.target a.visited 0);
    }

pub loop-at-preserved : goal.loop-at-preserved
loop-at-preserved c =
    let a = c.args in
    let s = a.self.now in
    let w = s.form.word in
    let l = c.loop-at in
    let d : l.at - 1 + 1 ≡ l.at = omega (arith, c.loop-at-test.true) in
    let q = places_cons w.word s.form.fixed (l.at - 1) (omega (arith, l.auto.at, c.loop-at-test.true)) (short_fits w.short) in
    let cover = c.parties_before-mask.ensures in
    let joined = within_or l.all c.parties_before-mask.result in
    record {
      after = omega (arith, c.loop-at-test.true);
      covers = cover;
      crowded = rw q (crowded_step s.graph.parties s.graph.table s.target a.visited _ _ c.parties_before-mask.result l.all _
          joined.0 joined.1 (rw q at cover) (rw d l.invariant.crowded));
    }

pub returns-then-all-len : goal.returns-then-all-len
returns-then-all-len c =
    let l = c.loop-at in
    walked_short l.invariant c.args.self.now.form.word.short (omega (arith, l.invariant.after, c.loop-at-test.false)) c.if-all-len.true
