-- Each step has its law (PermitLaws).
use Rattle.std.proofs.Common.{◌≡◌, sym, ◌∙◌, List, ℕ, arith}
use Rattle.graph.proofs.ShownLaws.{shown_by}
use Rattle.rule_bytes.specs.promises.Reading.{IsList}
use Rattle.rules.specs.promises.Meets.{meets_list}
use Rattle.rules.proofs.PermitLaws.{checked_list, the_answer}
use Rattle.rules.proofs.call.permit_in.Goals as goal

pub meets_list-requires : goal.meets_list-requires
meets_list-requires c =
    let w = shown_by c.args.a.now in
    checked_list w.0 c.args.a.now w.1 _ (λ i. omega (arith, c.type_inv.list i)) (sym c.check_list.ensures ∙ c.if-not-check_list.false)

pub returns : goal.returns
returns c =
    λ M h.
    let a = c.args in
    let given = c.in_ok-pair.ensures in
    let l = sym c.check_list.ensures ∙ c.if-not-check_list.false in
    let met : (l : List (List (List ℕ))) → IsList a.list.now l
    → c.meets_list.result ≡ meets_list a.a.now.graph.parties a.a.now.graph.table a.first a.second l =
    rw (← given.1.0, ← given.1.1.0, ← given.1.1.1) c.meets_list.ensures in
    sym (the_answer M a.a.now h _ _ _ given.0 (λ i. omega (arith, c.type_inv.list i)) l _ met)
