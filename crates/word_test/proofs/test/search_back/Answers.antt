use Rattle.std.proofs.Common.{sym, ap, ◌∙◌, arith}
use Rattle.std.specs.Int.{from_bool}
use Rattle.masks.proofs.MaskLaws.{filled_none}
use Rattle.word_test.proofs.StepLaws.{into_with, into_without}
use Rattle.word_test.proofs.PlacesLaws.{Wanted, wanted_all, wanted_starts, Answered, begun, places_nowhere, places_two, places_none}
use Rattle.word_test.proofs.PlacesLaws.{places_seconds, places_three, places_query, places_search}
use Rattle.word_test.proofs.TestLaws.{count_empty, length_empty, count_one, length_one}
use Rattle.word_test.proofs.test.search_back.Goals as goal
use Rattle.word_test.proofs.test.search_back.Goals.{then-deep-len, else-deep-len, then-has, else-has}

pub returns-then-len-eq0 : goal.returns-then-len-eq0
returns-then-len-eq0 c =
    let a = c.args in
    let none = c.nothing.ensures in
    let empty = c.if-len-eq0.true in
    record {
      count = none.count ∙ sym (count_empty a.q.now a.w empty a.cap);
      depth = λ z. none.depth ∙ omega (arith, length_empty a.q.now a.w empty);
    }

pub returns-then-len-eq1 : goal.returns-then-len-eq1
returns-then-len-eq1 c =
    let a = c.args in
    let one = c.if-len-eq1.true in
    let starts = c.steps_from-starts in
    record {
      count = c.from.ensures ∙ ap from_bool c.has.ensures
          ∙ count_one a.q.now a.w one a.cap c.requires starts.result (rw c.symbol.ensures at starts.ensures);
      depth = λ z. omega (arith, length_one a.q.now a.w one);
    }

pub returns-then-wanted-eq0 : goal.returns-then-wanted-eq0
returns-then-wanted-eq0 c =
    let a = c.args in
    let b = begun a.q.now a.w a.cap a.deep c.requires c.if-len-eq0.false c.if-len-eq1.false c.symbol.ensures c.steps_from-starts.ensures in
    let zero = c.if-wanted-eq0.true in
    let none = c.nothing-then-wanted-eq0 in
    let s : Answered a.q.now a.w a.cap a.deep none.result =
    elim c.if-deep-len.branch [
      | then-deep-len w ↦ absurd (omega (arith, w.wanted-is, zero))
      | else-deep-len w ↦
          places_nowhere b (omega (arith, w.if-deep-len.false)) (sym w.wanted-is ∙ zero) none.ensures.count none.ensures.depth
    ] in
    record { count = s.count; depth = s.depth }

pub returns-then-len-eq2 : goal.returns-then-len-eq2
returns-then-len-eq2 c =
    let a = c.args in
    let b = begun a.q.now a.w a.cap a.deep c.requires c.if-len-eq0.false c.if-len-eq1.false c.symbol.ensures c.steps_from-starts.ensures in
    let k : Wanted a.w.word.len c.steps_from-starts.result a.deep c.if-deep-len.wanted =
    elim c.if-deep-len.branch [
      | then-deep-len w ↦ rw w.wanted-is (wanted_all _ _ _)
      | else-deep-len w ↦ rw w.wanted-is (wanted_starts (omega (arith, w.if-deep-len.false)))
    ] in
    let both = c.with-visited in
    let ends = c.steps_to-ends in
    let s = places_two b c.with.ensures both.ensures both.type_inv ends.result k c.if-len-eq2.true c.symbol-last.ensures ends.ensures
    c.last_two.ensures in
    record { count = s.count; depth = s.depth }

pub returns-then-ends-eq0 : goal.returns-then-ends-eq0
returns-then-ends-eq0 c =
    let a = c.args in
    let b = begun a.q.now a.w a.cap a.deep c.requires c.if-len-eq0.false c.if-len-eq1.false c.symbol.ensures c.steps_from-starts.ensures in
    let none = c.nothing-then-ends-eq0 in
    let both = c.with-visited in
    let ends = c.steps_to-ends-2 in
    let s : Answered a.q.now a.w a.cap a.deep none.result =
    places_none b c.with.ensures both.ensures both.type_inv ends.result c.symbol-last.ensures ends.ensures c.if-ends-eq0.true
    none.ensures.count none.ensures.depth in
    record { count = s.count; depth = s.depth }

pub loop-d-init : goal.loop-d-init
loop-d-init c = record {
  wanted = elim c.if-deep-len.branch [
    | then-deep-len w ↦ rw w.wanted-is (wanted_all _ _ _)
    | else-deep-len w ↦ rw w.wanted-is (wanted_starts (omega (arith, w.if-deep-len.false)))
  ];
  into = record { masks = λ v h. rw (c.empty-seconds.ensures v) (filled_none _) };
}

pub loop-d-preserved : goal.loop-d-preserved
loop-d-preserved c =
    let l = c.loop-d in
    record {
      wanted = l.invariant.wanted;
      into = elim c.if-has.branch [
        | then-has w ↦
            let joined = rw w.symbol-then-has.ensures at w.join-seconds.ensures in
            rw w.seconds-is (into_with l.invariant.into (sym c.has-in-loop-d.ensures ∙ w.if-has.true) joined)
        | else-has w ↦ rw w.seconds-is (into_without l.invariant.into (sym c.has-in-loop-d.ensures ∙ w.if-has.false))
      ];
    }

pub returns-then-len-eq3 : goal.returns-then-len-eq3
returns-then-len-eq3 c =
    let a = c.args in
    let b = begun a.q.now a.w a.cap a.deep c.requires c.if-len-eq0.false c.if-len-eq1.false c.symbol.ensures c.steps_from-starts.ensures in
    let l = c.loop-d.invariant in
    let row = places_seconds b l.wanted l.into (omega (arith, c.loop-d-test.false)) in
    let both = c.with-visited in
    let ends = c.steps_to-ends-2 in
    let s = places_three b c.with.ensures both.ensures both.type_inv ends.result c.symbol-last.ensures ends.ensures c.if-len-eq3.true row
    c.last_three.ensures in
    record { count = s.count; depth = s.depth }

pub candidate_back-requires : goal.candidate_back-requires
candidate_back-requires c =
    let a = c.args in
    let b = begun a.q.now a.w a.cap a.deep c.requires c.if-len-eq0.false c.if-len-eq1.false c.symbol.ensures c.steps_from-starts.ensures in
    let l = c.loop-d.invariant in
    let row = places_seconds b l.wanted l.into (omega (arith, c.loop-d-test.false)) in
    let both = c.with-visited in
    let ends = c.steps_to-ends-2 in
    places_query b c.with.ensures both.ensures both.type_inv ends.result c.symbol-last.ensures ends.ensures c.if-len-eq2.false
    c.if-len-eq3.false row

pub returns : goal.returns
returns c =
    let a = c.args in
    let b = begun a.q.now a.w a.cap a.deep c.requires c.if-len-eq0.false c.if-len-eq1.false c.symbol.ensures c.steps_from-starts.ensures in
    let s = places_search b c.with.ensures c.with-visited.ensures c.with-visited.type_inv c.candidate_back.ensures in
    record { count = s.count; depth = s.depth }
