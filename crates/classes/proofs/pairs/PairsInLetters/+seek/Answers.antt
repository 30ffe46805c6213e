use Rattle.std.proofs.Common.{sym, ◌∙◌}
use Rattle.search.specs.promises.PairSearch.{graph_of}
use Rattle.classes.specs.promises.Prefixes.{own_pair, other_pair, letters_from}
use Rattle.classes.proofs.PrefixLaws.{onward_closed}
use Rattle.classes.proofs.SeekLaws.{turn_start, turn_skip, turn_found, turn_failed, turn_end, ended_here, ended_none, passed}
use Rattle.classes.proofs.pairs.PairsInLetters.+seek.Goals as goal
use Rattle.classes.proofs.pairs.PairsInLetters.+seek.Goals.{then-is_in+else-is_some, else-is_in}

pub returns-then-tells : goal.returns-then-tells
returns-then-tells t c =
    let a = c.args in
    ended_here a.self.now.pairs a.w a.at a.low a.high c.if-w-at.true (sym c.tells.ensures ∙ c.if-tells.true)

pub returns-then-w-at : goal.returns-then-w-at
returns-then-w-at t c =
    let a = c.args in
    ended_none a.self.now.pairs a.w a.at a.low a.high c.if-w-at.true (sym c.tells.ensures ∙ c.if-tells.false)

pub returns-then-is_none : goal.returns-then-is_none
returns-then-is_none t c =
    let a = c.args in
    passed a.self.now.pairs a.w a.at a.low a.high a.self.now.span.end c.requires.order (c.requires.classed c.if-high-self.true)
    c.seek.result c.seek.ensures c.if-is_none.ensures c.if-w-at.false

pub loop-c-init : goal.loop-c-init
loop-c-init t c = turn_start c.args.self.now.pairs c.args.w c.args.at c.args.low c.args.high

pub returns-then-is_some : goal.returns-then-is_some
returns-then-is_some t c =
    let a = c.args in
    let put = c.put.ensures in
    turn_found a.self.now.pairs a.w a.at a.low a.high c.loop-c.c c.put.result.word put.len put.symbols c.if-w-at.false
    c.seek-word.result c.seek-word.ensures c.loop-c.invariant c.loop-c-test.true (sym c.is_some.ensures ∙ c.if-is_some.true)

pub loop-c-preserved : goal.loop-c-preserved
loop-c-preserved t c =
    let a = c.args in
    let l = c.loop-c in
    let q = a.self.now.pairs in
    let below = c.loop-c-test.true in
    elim c.if-is_in.branch [
      | then-is_in+else-is_some w ↦
          let put = w.put.ensures in
          turn_failed q a.w a.at a.low a.high l.c w.put.result.word put.len put.symbols c.if-w-at.false w.seek-word.result
          w.seek-word.ensures l.invariant below (sym w.is_some.ensures ∙ w.if-is_some.false)
      | else-is_in w ↦ turn_skip q a.w a.at a.low a.high l.invariant below (λ fixed k p z.
          onward_closed (graph_of q.graph) (own_pair q) (other_pair q) (letters_from a.low a.high) fixed k l.c
          (c.letters_open-leads.ensures fixed k p z l.c l.invariant.from below (sym c.is_in.ensures ∙ w.if-is_in.false)))
    ]

pub returns : goal.returns
returns t c =
    let a = c.args in
    turn_end a.self.now.pairs a.w a.at a.low a.high c.loop-c.invariant c.loop-c-test.false c.if-w-at.false
