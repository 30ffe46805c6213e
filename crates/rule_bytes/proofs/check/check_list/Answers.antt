-- The count, then that many terms, and the end.
use Rattle.std.proofs.Common.{◌∙◌, sym, arith, rules}
use Rattle.rule_bytes.specs.ListBytes.{decode_many, decode_term}
use Rattle.rule_bytes.specs.promises.Reading.{Passes}
use Rattle.rule_bytes.proofs.ReadingLaws.{list_cut, list_ends, passes_many}
use Rattle.rule_bytes.proofs.check.check_list.Goals as goal

pub returns-then-list-lt2 : goal.returns-then-list-lt2
returns-then-list-lt2 c = sym (list_cut _ _ _ _ c.if-list-lt2.true)

pub returns : goal.returns
returns c =
    let a = c.args in
    let term = decode_term a.rule.labels a.rule.language a.rule.longest in
    let terms : Passes (decode_many term c.u16_at-number.result) a.list.now 2 c.check_parts-end.result =
    search (rules, passes_many term a.list.now) in
    c.eq.ensures ∙ sym (list_ends _ _ _ _ _ (omega (arith, c.if-list-lt2.false)) c.u16_at-number.ensures.0 _ terms)
