-- The list's check, then the pairs.
use Rattle.std.proofs.Common.{sym, ◌∙◌, arith}
use Rattle.comparison.proofs.CompareLaws.{the_answer}
use Rattle.comparison.proofs.call.compare_in.Goals as goal

pub returns : goal.returns
returns c M S =
    let passed = sym c.check_list.ensures ∙ c.if-not-check_list.false in
    sym (the_answer M c.args.a.now S _ (λ i. omega (arith, c.type_inv.list i)) passed _ (c.first_difference.ensures M))
