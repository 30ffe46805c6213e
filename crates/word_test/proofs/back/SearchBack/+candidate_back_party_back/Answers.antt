-- Each turn of the loop is a candidate of the definition (BackLaws), and one that is skipped adds nothing (WayLaws). Three steps left
-- are counted by masks.
use Rattle.std.proofs.Common.{sym, ◌∙◌, arith, rules}
use Rattle.word_test.proofs.BackLaws.{turn_start, turn_end, turn_barred, turn_skip}
use Rattle.word_test.proofs.TriedLaws.{passing, trying, query_on, Beyond, by_three, by_party, by_none, goes_on, still, enough}
use Rattle.word_test.proofs.back.SearchBack.+candidate_back_party_back.Goals as goal

pub candidate_back-loop-v-init : goal.candidate_back-loop-v-init
candidate_back-loop-v-init t c = turn_start c.requires c.passed-depth.ensures

pub candidate_back-loop-v-preserved-then-not-has : goal.candidate_back-loop-v-preserved-then-not-has
candidate_back-loop-v-preserved-then-not-has t c =
    let p = c.args.p in
    let l = c.loop-v in
    elim c.then-not-has.branch [
      | goal.candidate_back-then-not-has-via-then-not-has w ↦
          turn_barred c.requires l.invariant c.loop-v-test.true (sym c.has.ensures ∙ w.if-not-has.true)
      | goal.candidate_back-then-not-has-via-else-not-has+then-is_some_and w ↦
          turn_skip c.requires l.invariant c.loop-v-test.true (sym c.has.ensures ∙ w.if-not-has.false)
          (search rules) w.if-is_some_and.true
    ]

pub candidate_back-party_back-requires : goal.candidate_back-party_back-requires
candidate_back-party_back-requires t c =
    let next = c.steps_to-next.ensures in
    let more = c.with-more in
    let k = trying c.requires c.loop-v.invariant c.loop-v-test.true c.has.ensures c.if-not-has.false more.ensures more.type_inv
    c.symbol-s.ensures next in
    (omega (arith, c.decreases, c.requires.three), query_on k c.if-p-eq3.false)

pub candidate_back-returns-then-p-count : goal.candidate_back-returns-then-p-count
candidate_back-returns-then-p-count t c =
    let next = c.steps_to-next.ensures in
    let more = c.with-more in
    let k = trying c.requires c.loop-v.invariant c.loop-v-test.true c.has.ensures c.if-not-has.false more.ensures more.type_inv
    c.symbol-s.ensures next in
    let found : Beyond k (passing c.args.p c.loop-v.v) c.if-p-eq3.f =
    elim c.if-p-eq3.branch [
      | goal.candidate_back-then-p-eq3 w ↦ by_three k w.if-p-eq3.true w.f-is w.last_three-f.ensures
      | goal.candidate_back-else-p-eq3+then-next-eq0 w ↦
          by_none k w.if-next-eq0.true w.f-is w.nothing.ensures.count (w.nothing.ensures.depth ∙ w.passed.ensures)
      | goal.candidate_back-else-p-eq3+else-next-eq0 w ↦ by_party k w.f-is w.party_back.ensures
    ] in
    enough k found c.if-p-count.true c.loop-v.tried

pub candidate_back-loop-v-preserved : goal.candidate_back-loop-v-preserved
candidate_back-loop-v-preserved t c =
    let next = c.steps_to-next.ensures in
    let more = c.with-more in
    let k = trying c.requires c.loop-v.invariant c.loop-v-test.true c.has.ensures c.if-not-has.false more.ensures more.type_inv
    c.symbol-s.ensures next in
    let found : Beyond k (passing c.args.p c.loop-v.v) c.if-p-eq3.f =
    elim c.if-p-eq3.branch [
      | goal.candidate_back-then-p-eq3 w ↦ by_three k w.if-p-eq3.true w.f-is w.last_three-f.ensures
      | goal.candidate_back-else-p-eq3+then-next-eq0 w ↦
          by_none k w.if-next-eq0.true w.f-is w.nothing.ensures.count (w.nothing.ensures.depth ∙ w.passed.ensures)
      | goal.candidate_back-else-p-eq3+else-next-eq0 w ↦ by_party k w.f-is w.party_back.ensures
    ] in
    goes_on k found (omega (arith, c.if-p-count.false)) c.if-is_none.onward elim c.if-is_none.branch [
      | goal.candidate_back-then-is_none+then-p-tried w ↦ rw w.onward-is w.look-onward.ensures
      | goal.candidate_back-else-is_none w ↦ rw w.onward-is (still k found)
    ]

pub candidate_back-returns : goal.candidate_back-returns
candidate_back-returns t c = turn_end c.requires c.loop-v.invariant (omega (arith, c.loop-v-test.false)) c.loop-v.tried
