use Rattle.std.proofs.Common.{sym, ◌∙◌}
use Rattle.mining.specs.Values.{pair_in}
use Rattle.mining.proofs.LackedLaws.{next_none, next_lacked, next_had, next_some}
use Rattle.mining.proofs.ShortcutLaws.{covered_none}
use Rattle.mining.proofs.lacked.lacked_after.Goals as goal

pub returns-then-carried : goal.returns-then-carried
returns-then-carried c M S =
    let t = c.args.t.now in
    let b = c.both.ensures in
    let covered = rw (b.graph, b.own.0, b.own.1, b.other.0, b.other.1) at (c.carried.ensures c.if-carried.true) in
    covered_none t.own.archive.now S (pair_in t.own.pair) (pair_in t.other) covered

pub returns-in_err-w : goal.returns-in_err-w
returns-in_err-w c =
    let o = c.in_graph-own.ensures in
    let n = rw (o.graph, o.first, o.second, c.in_err-w.was) at c.next_word.ensures in
    rw c.from_residual.ensures (next_none c.args.t.now c.loop.w c.loop.invariant.0 n)

pub returns-then-not-has_word : goal.returns-then-not-has_word
returns-then-not-has_word c =
    let o = c.in_graph-own.ensures in
    let h = c.other-other.ensures in
    let n = rw (o.graph, o.first, o.second, c.in_ok-w.was) at c.next_word.ensures in
    let no = sym (rw (h.graph, h.first, h.second) at c.has_word.ensures) ∙ c.if-not-has_word.true in
    next_lacked c.args.t.now c.loop.w c.loop.invariant.0 c.in_ok-w.w n no

pub loop-preserved : goal.loop-preserved
loop-preserved c =
    let t = c.args.t.now in
    let q = c.loop.invariant.0 in
    let v = c.in_ok-w.w in
    let o = c.in_graph-own.ensures in
    let h = c.other-other.ensures in
    let n = rw (o.graph, o.first, o.second, c.in_ok-w.was) at c.next_word.ensures in
    let yes = sym (rw (h.graph, h.first, h.second) at c.has_word.ensures) ∙ c.if-not-has_word.false in
    (next_had t c.loop.w q v n yes, λ z. next_some t c.loop.w q v n)
