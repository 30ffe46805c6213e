-- Each turn of the loop is a candidate of the definition (SearchLaws), and one that is skipped leads nowhere (TurnLaws, WalkLaws). The last
-- two of three places are last steps.
use Rattle.std.proofs.Common.{◌+◌, sym, ap, ◌∙◌, arith, rules}
use Rattle.search.specs.promises.Search.{FoundAs}
use Rattle.search.specs.promises.Onward.{search_on}
use Rattle.search.proofs.TurnLaws.{leads, turn_start, turn_end, turn_skip, turn_visited, turn_barred, turn_lost}
use Rattle.search.proofs.TurnLaws.{target_nowhere, target_open, tried, tried_failed, tried_found}
use Rattle.search.proofs.search.Search.+candidate_search_party_search.Goals as goal

pub candidate_search-loop-v-init : goal.candidate_search-loop-v-init
candidate_search-loop-v-init t c = turn_start c.requires

pub candidate_search-loop-v-preserved-then-v-self : goal.candidate_search-loop-v-preserved-then-v-self
candidate_search-loop-v-preserved-then-v-self t c =
    let a = c.args in
    let p = a.p in
    let l = c.loop-v in
    turn_skip l.invariant c.loop-v-test.true l.invariant.covers
    elim c.then-v-self.branch [
      | goal.candidate_search-then-v-self-via-then-v-self w ↦
          ap (leads a.self p.at p.u p.visited) w.if-v-self.true ∙ target_nowhere c.requires
      | goal.candidate_search-then-v-self-via-else-v-self+then-has w ↦
          turn_visited l.invariant (sym w.has.ensures ∙ w.if-has.true)
      | goal.candidate_search-then-v-self-via-else-v-self+else-has+then-is_some_and w ↦
          turn_lost l.invariant c.loop-v-test.true (search rules) w.if-is_some_and.true (sym w.has.ensures ∙ w.if-has.false)
      | goal.candidate_search-then-v-self-via-else-v-self+else-has+else-is_some_and+then-not-allows w ↦
          turn_barred l.invariant (sym w.allows.ensures ∙ w.if-not-allows.true)
    ]

pub candidate_search-party_search-beyond-requires : goal.candidate_search-party_search-beyond-requires
candidate_search-party_search-beyond-requires t c = (
  omega (arith, c.decreases, c.requires.places, c.args.self.form.word.short.len),
  record {
    places = omega (arith, c.if-p-len.true);
    start = c.loop-v-test.true;
    unvisited = target_open _ _ _ c.with.ensures c.if-v-self.false c.requires.unvisited;
  },
)

pub candidate_search-two_steps-beyond-requires-clause-unvisited : goal.candidate_search-two_steps-beyond-requires-clause-unvisited
candidate_search-two_steps-beyond-requires-clause-unvisited t c =
    target_open _ _ _ c.with.ensures c.if-v-self.false c.requires.unvisited

pub candidate_search-returns-in-Ok : goal.candidate_search-returns-in-Ok
candidate_search-returns-in-Ok t c =
    let a = c.args in
    let p = a.p in
    let l = c.loop-v in
    let more = c.with in
    let beyond : FoundAs (p.at + 1) more.result (search_on a.self (p.at + 1) l.v more.result) c.if-p-len.beyond =
    elim c.if-p-len.branch [
      | goal.candidate_search-then-p-len w ↦ rw w.beyond-is w.party_search-beyond.ensures
      | goal.candidate_search-else-p-len w ↦ rw w.beyond-is w.two_steps-beyond.ensures
    ] in
    tried_found
    (tried c.requires l.invariant c.loop-v-test.true c.has.ensures c.if-has.false c.allows.ensures c.if-not-allows.false
    more.ensures beyond)
    c.in-Ok.is

pub candidate_search-loop-v-preserved : goal.candidate_search-loop-v-preserved
candidate_search-loop-v-preserved t c =
    let a = c.args in
    let p = a.p in
    let l = c.loop-v in
    let more = c.with in
    let beyond : FoundAs (p.at + 1) more.result (search_on a.self (p.at + 1) l.v more.result) c.if-p-len.beyond =
    elim c.if-p-len.branch [
      | goal.candidate_search-then-p-len w ↦ rw w.beyond-is w.party_search-beyond.ensures
      | goal.candidate_search-else-p-len w ↦ rw w.beyond-is w.two_steps-beyond.ensures
    ] in
    turn_skip l.invariant c.loop-v-test.true
    elim c.if-p-len-2.branch [
      | goal.candidate_search-then-p-len-2+then-is_none+then-len-p w ↦ rw w.onward-is w.walkable.ensures
      | goal.candidate_search-else-p-len-2 w ↦ rw w.onward-is l.invariant.covers
    ]
    (tried_failed
    (tried c.requires l.invariant c.loop-v-test.true c.has.ensures c.if-has.false c.allows.ensures c.if-not-allows.false
    more.ensures beyond)
    c.in-Err.is)

pub candidate_search-returns : goal.candidate_search-returns
candidate_search-returns t c = turn_end c.loop-v.invariant c.loop-v-test.false
