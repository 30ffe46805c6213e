-- The row put in has what holds of its party, the others keep what they had; past the last party nothing holds.
use Rattle.std.proofs.Common.{sym, ◌∙◌, ◌≤◌, arith}
use Rattle.std.proofs.Math.Logic.{by_cases}
use Rattle.std.proofs.Math.Decide.{ℕ_discrete, dec_lt}
use Rattle.masks.proofs.MaskLaws.{zero_bit}
use Rattle.graph.proofs.SymbolLaws.{holds_outside, apart_first}
use Rattle.graph.proofs.enlarge.enlarge.Goals as goal

pub loop-u-init : goal.loop-u-init
loop-u-init c =
    record { filled = λ M r x v s h. absurd (omega arith); empty = λ x v h. c.empty-table.ensures x v }

pub loop-u-preserved : goal.loop-u-preserved
loop-u-preserved c =
    let l = c.loop-u in
    let row = c.put_row-table.ensures in
    record {
      filled = λ M r x v s h. by_cases (ℕ_discrete x l.u)
          (λ q. rw (q, row.same v) (c.enlarge_row.ensures M r v s))
          (λ q. rw (row.other x v q) (l.invariant.filled M r x v s (omega (arith, q))));
      empty = λ x v h. row.other x v (λ q. omega arith) ∙ l.invariant.empty x v (omega arith);
    }

pub returns : goal.returns
returns c =
    let l = c.loop-u in
    let e : c.args.n ≤ l.u = c.loop-u-test.false in
    λ M r u v s. by_cases (dec_lt u c.args.n)
    (λ h. l.invariant.filled M r u v s (omega arith))
    (λ h. rw (l.invariant.empty u v (omega arith))
    (zero_bit s ∙ sym (holds_outside M u v s (apart_first M u v (omega (arith, r.parties))))))
