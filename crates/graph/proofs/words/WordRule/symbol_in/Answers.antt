-- The symbol's kind decides.
use Rattle.std.proofs.Common.{◌≡◌, sym, ◌∙◌, ◌%◌, arith}
use Rattle.graph.proofs.SymbolLaws.{symbol_not, symbol_kind}
use Rattle.graph.proofs.words.WordRule.symbol_in.Goals as goal

pub returns-in-0 : goal.returns-in-0
returns-in-0 c = c.has.ensures ∙ sym (symbol_kind _ _ _ _ (sym c.uses_kind.ensures ∙ c.if-uses_kind.true) 0 c.in-0.is)

pub returns-in-1 : goal.returns-in-1
returns-in-1 c = c.absent_in.ensures ∙ sym (symbol_kind _ _ _ _ (sym c.uses_kind.ensures ∙ c.if-uses_kind.true) 1 c.in-1.is)

pub returns-in-2 : goal.returns-in-2
returns-in-2 c = c.has-in-2.ensures ∙ sym (symbol_kind _ _ _ _ (sym c.uses_kind.ensures ∙ c.if-uses_kind.true) 2 c.in-2.is)

pub returns-in_default : goal.returns-in_default
returns-in_default c =
    let e : c.args.s % 4 ≡ 3 = omega arith in
    c.absent_in-in_default.ensures ∙ sym (symbol_kind _ _ _ _ (sym c.uses_kind.ensures ∙ c.if-uses_kind.true) 3 e)

pub returns-else-uses_kind : goal.returns-else-uses_kind
returns-else-uses_kind c = c.if-uses_kind.false ∙ sym (symbol_not _ _ _ _ (sym c.uses_kind.ensures ∙ c.if-uses_kind.false))
