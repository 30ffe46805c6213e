-- Bytes that passed the check are those of a list.
use Rattle.std.proofs.Common.{sym, ◌∙◌, arith, rules}
use Rattle.rules.proofs.PermitLaws.{checked_list}
use Rattle.cases.proofs.listed.text_call.Goals as goal

pub list_text-k-requires : goal.list_text-k-requires
list_text-k-requires c =
    let a = c.in_ok-a.a in
    let passed = sym c.check_list.ensures ∙ c.if-not-check_list.false in
    (checked_list _ a a.shown _ (search rules) passed, omega (arith, c.if-space-list.false))
