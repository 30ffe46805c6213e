-- The next word is the first of those ahead.
use Rattle.std.proofs.Common.{arith, ap}
use Rattle.rule_bytes.specs.declared.read.WordRead.{WordRead}
use Rattle.rule_bytes.proofs.PlaceLaws.{entry, word_fits, word_read, word_short, word_next}
use Rattle.rule_bytes.proofs.words.WordsIterator.next.Goals as goal

pub read_word-r-requires : goal.read_word-r-requires
read_word-r-requires c =
    let w = c.requires in
    let n = entry _ w.1.1 (omega (arith, c.if-self-eq0.false)) in
    word_fits _ _ n.first _ n.bytes n.fits

pub invariant_of-result : goal.invariant_of-result
invariant_of-result c =
    let w = c.requires in
    let n = entry _ w.1.1 (omega (arith, c.if-self-eq0.false)) in
    record { short = rw (word_read _ _ n.first _ n.bytes c.read_word-r.ensures) (word_short n.first n.fits) }

pub returns-clause-goes : goal.returns-clause-goes
returns-clause-goes c =
    let w = c.requires in
    let n = entry _ w.1.1 (omega (arith, c.if-self-eq0.false)) in
    let next = ap (λ (r : WordRead). r.next) c.read_word-r.ensures in
    let o = c.args.self.now in
    let on = n.onward _ (word_next o.list.now o.place n.first _ n.bytes) in
    rw next (record { on = λ _. ((_, (_, on)), tt, omega (arith, c.if-self-eq0.false)); keeps = (_, (_, on)); rests = λ _. tt })
