-- A legal word fits its array, and its symbols are places of a mask.
use Rattle.std.proofs.Common.{rules, refl}
use Rattle.graph.proofs.ShownLaws.{shown_by}
use Rattle.paths.proofs.CallLaws.{legal_is, short_given}
use Rattle.paths.proofs.call.given_word.Goals as goal

pub returns-then-not-legal_given_word : goal.returns-then-not-legal_given_word
returns-then-not-legal_given_word c =
    let a = c.args in
    λ M S. (legal_is M a.a.now S a.w c.legal_given_word.ensures c.if-not-legal_given_word.true, refl)

pub invariant_of-result : goal.invariant_of-result
invariant_of-result c =
    let a = c.args in
    record { short = short_given a.a.now (shown_by a.a.now) a.w (search rules) c.legal_given_word.ensures c.if-not-legal_given_word.false }

pub returns : goal.returns
returns c = let a = c.args in λ M S. (legal_is M a.a.now S a.w c.legal_given_word.ensures c.if-not-legal_given_word.false, refl)
