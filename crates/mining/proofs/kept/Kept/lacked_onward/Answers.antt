use Rattle.std.proofs.Common.{sym, ◌∙◌, [], ◌∷◌, arith, length-append, Some}
use Rattle.search.specs.Word.{symbols_in}
use Rattle.mining.specs.Values.{pair_in}
use Rattle.mining.proofs.LackedLaws.{next_in, next_none, next_lacked, next_had}
use Rattle.mining.proofs.KeptLaws.{last_more}
use Rattle.mining.proofs.kept.Kept.lacked_onward.Goals as goal

pub returns-in_err-w : goal.returns-in_err-w
returns-in_err-w c =
    let q = c.loop.invariant.0 in
    let o = c.in_graph-own.ensures in
    let n = rw (o.graph, o.first, o.second, c.in_err-w.was) at c.next_word.ensures in
    rw c.from_residual.ensures (record { next = next_none c.args.t.now c.loop.w q.query n; kept = (q.words, q.kept) })

pub keep-requires : goal.keep-requires
keep-requires c =
    let t = c.args.t.now in
    let q = c.loop.invariant.0 in
    record {
      more = omega (arith, c.loop.invariant.1, c.loop-test.true);
      kept = (t.own.archive.now, (pair_in t.own.pair, (q.words, q.kept)));
    }

pub returns-then-not-has_word : goal.returns-then-not-has_word
returns-then-not-has_word c =
    let t = c.args.t.now in
    let q = c.loop.invariant.0 in
    let v = c.in_ok-w.w in
    let o = c.in_graph-own.ensures in
    let h = c.other-other.ensures in
    let n = rw (o.graph, o.first, o.second, c.in_ok-w.was) at c.next_word.ensures in
    let no = sym (rw (h.graph, h.first, h.second) at c.has_word.ensures) ∙ c.if-not-has_word.true in
    record {
      next = next_lacked t c.loop.w q.query v n no;
      kept = (_, c.keep.ensures _ _ _ q.kept (rw (← q.last) (next_in t c.loop.w q.query (Some v) n)));
    }

pub loop-preserved : goal.loop-preserved
loop-preserved c =
    let t = c.args.t.now in
    let q = c.loop.invariant.0 in
    let v = c.in_ok-w.w in
    let o = c.in_graph-own.ensures in
    let h = c.other-other.ensures in
    let n = rw (o.graph, o.first, o.second, c.in_ok-w.was) at c.next_word.ensures in
    let longer = c.keep.ensures _ _ _ q.kept (rw (← q.last) (next_in t c.loop.w q.query (Some v) n)) in
    let yes = sym (rw (h.graph, h.first, h.second) at c.has_word.ensures) ∙ c.if-not-has_word.false in (
      record {
        query = next_had t c.loop.w q.query v n yes;
        words = _;
        kept = longer;
        last = sym (last_more [] q.words (symbols_in v.word));
      },
      omega (arith, longer.number, q.kept.number, length-append q.words (symbols_in v.word ∷ []), c.loop.invariant.1),
    )
