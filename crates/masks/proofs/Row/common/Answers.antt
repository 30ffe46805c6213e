use Rattle.std.proofs.Common.{◌≡◌, ℕ, refl, sym, ap, ◌∙◌, arith}
use Rattle.std.proofs.Math.Logic.{by_cases}
use Rattle.std.proofs.Math.Decide.{dec_lt}
use Rattle.std.proofs.Math.ListN.{get_or-eq_default}
use Rattle.masks.specs.promises.Mask.{test_bit}
use Rattle.masks.specs.promises.Table.{mask_in}
use Rattle.masks.proofs.BitLaws.{test_and}
use Rattle.masks.proofs.MaskLaws.{zero_bit}
use Rattle.masks.proofs.Row.common.Goals as goal

pub returns : goal.returns
returns c x y =
    let i = c.loop-u.invariant in
    by_cases (dec_lt x 32)
    (λ h. ap (λ (m : ℕ). test_bit m y) (i.done x (omega (arith, c.loop-u-test.false))) ∙ test_and _ _ y)
    (λ h. let past : mask_in c.loop-u.row x ≡ 0 = get_or-eq_default c.loop-u.row.masks 0 {n = x} (omega (arith, h, i.full)) in
    rw (past, sym (i.ahead x (omega (arith, h, c.loop-u.auto.u-end))) ∙ past, zero_bit y) refl)
