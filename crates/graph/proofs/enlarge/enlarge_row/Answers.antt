-- The mask put in has what holds of its pair, the others keep what they had; nothing holds of a party to itself or past the last one.
use Rattle.std.proofs.Common.{◌≡◌, sym, ◌∙◌, false, ◌≤◌, ◌<◌, arith}
use Rattle.std.proofs.Math.Logic.{by_cases}
use Rattle.std.proofs.Math.Decide.{ℕ_discrete, dec_lt}
use Rattle.masks.proofs.MaskLaws.{zero_bit}
use Rattle.rebac.specs.Symbols.{apart}
use Rattle.graph.proofs.SymbolLaws.{symbols_hold, holds_outside, apart_second, apart_self}
use Rattle.graph.proofs.enlarge.enlarge_row.Goals.{then-v-u, else-v-u}
use Rattle.graph.proofs.enlarge.enlarge_row.Goals as goal

pub loop-v-preserved : goal.loop-v-preserved
loop-v-preserved c =
    let l = c.loop-v in
    let a = c.args in
    let below : l.v < a.n = c.loop-v-test.true in
    elim c.if-v-u.branch [
      | then-v-u w ↦ rw w.row-is (record {
        filled = λ M r x s h. by_cases (ℕ_discrete x l.v)
            (λ q.
            let party : a.u < M.parties = omega (arith, r.parties, c.requires.1) in
            let other : l.v < M.parties = omega (arith, r.parties, below) in
            rw (q, w.put_mask-row.ensures.same)
            (w.symbols.ensures s ∙ symbols_hold M a.n a.words a.kinds.now r a.u l.v party other (λ e. w.if-v-u.true (sym e)) s))
            (λ q. rw (w.put_mask-row.ensures.other x q) (l.invariant.filled M r x s (omega (arith, q))));
        empty = λ x h. w.put_mask-row.ensures.other x (λ q. omega arith) ∙ l.invariant.empty x (omega arith);
      })
      | else-v-u w ↦ rw w.row-is (record {
        filled = λ M r x s h. by_cases (ℕ_discrete x l.v)
            (λ q.
            let itself : apart M a.u l.v ≡ false = apart_self M a.u l.v (sym w.if-v-u.false) in
            rw (q, l.invariant.empty l.v (omega arith)) (zero_bit s ∙ sym (holds_outside M a.u l.v s itself)))
            (λ q. l.invariant.filled M r x s (omega (arith, q)));
        empty = λ x h. l.invariant.empty x (omega arith);
      })
    ]

pub returns : goal.returns
returns c =
    let l = c.loop-v in
    let a = c.args in
    let e : a.n ≤ l.v = c.loop-v-test.false in
    λ M r v s. by_cases (dec_lt v a.n)
    (λ h. l.invariant.filled M r v s (omega arith))
    (λ h.
    let outside : apart M a.u v ≡ false = apart_second M a.u v (omega (arith, r.parties)) in
    rw (l.invariant.empty v (omega arith)) (zero_bit s ∙ sym (holds_outside M a.u v s outside)))
