use Rattle.std.proofs.Common.{◌∙◌, arith}
use Rattle.search.proofs.SearchLaws.{symbols_length, short_fits}
use Rattle.words.proofs.NextLaws.{filling_next, filling_end}
use Rattle.words.proofs.next.fill_from.Goals as goal

pub loop-i-preserved : goal.loop-i-preserved
loop-i-preserved c =
    let l = c.loop-i in
    let v = l.invariant in
    let e = c.least_symbol-t.ensures in
    let size = symbols_length l.t.word (short_fits l.t.short) in
    record {
      len = e.len ∙ v.len;
      filling = λ al done m A p k f.
          filling_next c.args.q.now A (v.filling al done m A p k f) size (omega (arith, c.loop-i-test.true, v.len)) e;
    }

pub returns : goal.returns
returns c al done m A p k f =
    let l = c.loop-i in
    let v = l.invariant in
    let size = symbols_length l.t.word (short_fits l.t.short) in
    filling_end c.args.q.now A (v.filling al done m A p k f) size (omega (arith, c.loop-i-test.false, v.len))
