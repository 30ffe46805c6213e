-- The count, then that many words.
use Rattle.std.proofs.Common.{◌+◌, arith, rules}
use Rattle.rule_bytes.specs.ListBytes.{decode_many, decode_word, decode_term}
use Rattle.rule_bytes.specs.promises.Reading.{Passes}
use Rattle.rule_bytes.proofs.ReadingLaws.{term_here, passes_same, passes_many}
use Rattle.rule_bytes.proofs.check.Checked.term.Goals as goal

pub returns : goal.returns
returns c =
    let a = c.args in
    let s = a.self.now in
    let word = decode_word s.rule.labels s.rule.language s.rule.longest in
    let words : Passes (decode_many word c.u16_at-number.result) s.list.now (a.at + 2) c.check_parts.result =
    search (rules, passes_many word s.list.now) in
    let same = term_here _ _ _ s.list.now a.at _ (omega arith) c.u16_at-number.ensures.0 c.if-number-eq0.false in
    passes_same (decode_term s.rule.labels s.rule.language s.rule.longest) (decode_many word c.u16_at-number.result)
    s.list.now a.at (a.at + 2) c.check_parts.result same words
