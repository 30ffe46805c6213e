use Rattle.std.proofs.Common.{◌≡◌, arith, rules, sym, ◌∙◌}
use Rattle.lists.proofs.Cases.{both}
use Rattle.limits.specs.Limits.{symbol_count}
use Rattle.letters.proofs.WritingLaws.{least_same, least_more, used_small}
use Rattle.letters.proofs.least.Least.of.Goals as goal
use Rattle.letters.proofs.least.Least.of.Goals.{then-is_in+then-not-stands, else-is_in}
use Rattle.letters.proofs.least.Least.of.Goals.{else-is_in-via-then-is_in+else-not-stands, else-is_in-via-else-is_in}

pub loop-number-preserved : goal.loop-number-preserved
loop-number-preserved c =
    let l = c.loop-number in
    elim c.if-is_in.branch [
      | then-is_in+then-not-stands w ↦ rw w.l-is (least_more _ _ _ l.invariant)
      | else-is_in w ↦ rw w.l-is (least_same _ _ _ l.invariant (elim w.else-is_in.branch [
        | else-is_in-via-then-is_in+else-not-stands v ↦ λ k i e. v.stands.ensures v.if-not-stands.false
        | else-is_in-via-else-is_in v ↦ λ k i e. both (c.used_symbols-used.ensures k _ i e) (sym c.is_in.ensures ∙ v.if-is_in.false)
      ]))
    ]

pub returns : goal.returns
returns c =
    let e : c.loop-number.number ≡ symbol_count = omega arith in
    record { least = rw e at c.loop-number.invariant; below = used_small _ _ c.used_symbols-used.ensures (search rules) }
