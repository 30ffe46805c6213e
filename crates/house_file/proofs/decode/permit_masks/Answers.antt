-- A table has no row past its places.
use Rattle.std.proofs.Common.{◌≡◌, sym, ◌∙◌, arith, length}
use Rattle.std.proofs.Math.Logic.{by_cases}
use Rattle.std.proofs.Math.Decide.{dec_lt}
use Rattle.std.proofs.Math.ListN.{get_or-eq_default}
use Rattle.masks.specs.promises.Table.{no_row}
use Rattle.masks.proofs.MaskLaws.{zero_bit}
use Rattle.house_file.proofs.decode.permit_masks.Goals as goal

pub returns : goal.returns
returns c =
    let l = c.loop-u in
    let t = c.args.kinds in
    let n : length t.rows ≡ 32 = c.well_formed.0.1.1.0.1.0.1 in
    λ u v. by_cases (dec_lt u (length t.rows))
    (λ h. l.invariant.filled u v (omega arith))
    (λ h. rw (l.invariant.empty u (omega arith), get_or-eq_default t.rows no_row {n = u} (omega arith))
    (zero_bit v ∙ sym (zero_bit 31)))
