use Rattle.std.proofs.Common.{rules, sym, ◌∙◌, arith}
use Rattle.maps.proofs.MapLaws.{used_with}
use Rattle.maps.proofs.carry.Map.one_to_one.Goals as goal

pub loop-u-preserved : goal.loop-u-preserved
loop-u-preserved c =
    let l = c.loop-u in
    let more = used_with c.args.g.now.parties l.image l.used l.u c.in_ok-x.x l.invariant.1 c.if-g-x.false in
    (search rules, rw c.with-used.ensures (more (sym c.has.ensures ∙ c.if-has.false) (omega arith)))
