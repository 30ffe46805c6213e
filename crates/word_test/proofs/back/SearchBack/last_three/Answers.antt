use Rattle.std.proofs.Common.{sym, ◌∙◌, arith}
use Rattle.word_test.proofs.CountLaws.{count_start, count_past, count_on, count_full}
use Rattle.word_test.proofs.BackLaws.{three_tried}
use Rattle.word_test.proofs.back.SearchBack.last_three.Goals as goal
use Rattle.word_test.proofs.back.SearchBack.last_three.Goals.{then-has+else-cap-count, else-has}

pub loop-v-init : goal.loop-v-init
loop-v-init c = count_start _ _ c.requires.some c.passed-depth.ensures

pub returns-then-cap-count : goal.returns-then-cap-count
returns-then-cap-count c =
    let a = c.args in
    let s = a.self.now in
    let l = c.loop-v in
    let yes = sym c.has.ensures ∙ c.if-has.true in
    let f = three_tried a.mask s.seconds a.visited s.starts l.v c.requires.three yes c.with-more.ensures c.last_two-f.ensures in
    count_full l.invariant f c.loop-v-test.true c.requires.some c.if-cap-count.true 0

pub loop-v-preserved : goal.loop-v-preserved
loop-v-preserved c =
    let a = c.args in
    let s = a.self.now in
    let l = c.loop-v in
    elim c.if-has.branch [
      | then-has+else-cap-count w ↦
          let yes = sym c.has.ensures ∙ w.if-has.true in
          let f = three_tried a.mask s.seconds a.visited s.starts l.v c.requires.three yes w.with-more.ensures w.last_two-f.ensures in
          rw (w.count-is, w.depth-is) (count_on l.invariant f (omega (arith, w.if-cap-count.false)))
      | else-has w ↦
          let e = sym c.has.ensures ∙ w.if-has.false in
          rw (w.count-is, w.depth-is) (count_past l.invariant (rw e) (rw e (omega (arith, l.invariant.start))))
    ]
