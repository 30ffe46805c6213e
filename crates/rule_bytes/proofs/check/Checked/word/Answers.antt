-- A word of legal symbols has its law; the other ways out have theirs (word_breaks).
use Rattle.std.proofs.Common.{◌+◌, ◌≤◌, ◌∙◌, ap, sym, arith}
use Rattle.lists.specs.Lists.{all_of}
use Rattle.graph.specs.Legal.{legal_symbol}
use Rattle.rule_bytes.proofs.ReadingLaws.{range_is, word_good}
use Rattle.rule_bytes.proofs.check.Checked.word.Goals as goal

pub returns-then-legal_symbols : goal.returns-then-legal_symbols
returns-then-legal_symbols c =
    let byte = c.in_ok-get.ensures.lookup.3 in
    let size = c.from-size.ensures ∙ byte.1 0 in
    let a = c.args in
    let within = c.in_ok-symbols.ensures.lookup.0 in
    let s = a.self.now in
    let good = ap (all_of (legal_symbol s.rule.labels s.rule.language)) (sym (range_is s.list.now (a.at + 1) _) ∙ sym within.2)
    ∙ sym c.legal_symbols.ensures ∙ c.if-legal_symbols.true in
    let some : 1 ≤ c.from-size.result = omega (arith, c.if-size-eq0.false) in
    (within.1, (_, word_good _ _ _ _ _ _ byte.0 size (omega (arith, within.1)) some c.if-self-size.false good))
