-- Each place in turn; a row has no mask past its places.
use Rattle.std.proofs.Common.{◌≡◌, sym, ◌∙◌, length, arith}
use Rattle.std.proofs.Math.ListN.{get_or-eq_default}
use Rattle.masks.proofs.MaskLaws.{filled_none, filled_with, filled_without, filled_all, zero_bit}
use Rattle.house_file.proofs.decode.permit_mask.Invariants.{permits}
use Rattle.house_file.proofs.decode.permit_mask.Goals.{then-has, else-has}
use Rattle.house_file.proofs.decode.permit_mask.Goals as goal

pub loop-v-init : goal.loop-v-init
loop-v-init c = filled_none _

pub loop-v-preserved : goal.loop-v-preserved
loop-v-preserved c =
    let l = c.loop-v in
    let row = c.args.row in
    let said = sym c.has.ensures in
    elim c.if-has.branch [
      | then-has w ↦ rw (w.mask-is ∙ w.with-mask.ensures) (filled_with (permits row) l.v l.mask l.invariant (said ∙ w.if-has.true))
      | else-has w ↦ rw w.mask-is (filled_without (permits row) l.v l.mask l.invariant (said ∙ w.if-has.false))
    ]

pub returns : goal.returns
returns c =
    let l = c.loop-v in
    let row = c.args.row in
    let n : length row.masks ≡ 32 = c.well_formed.0.1.1.0.1.0.1 in
    let e : l.v ≡ 32 = omega arith in
    filled_all (permits row) 32 l.mask (rw e at l.invariant)
    (λ x h. rw (get_or-eq_default row.masks 0 {n = x} (omega arith)) (zero_bit 31))
