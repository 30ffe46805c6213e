-- The bytes that were read are the input's first, as many as the array has room for.
use Rattle.std.proofs.Common.{refl, rules}
use Rattle.conversion.proofs.MappedLaws.{mapped_ok}
use Rattle.permitconv.proofs.StartLaws.{reported}
use Rattle.permitconv.proofs.convert.Goals as goal

pub returns : goal.returns
returns g c =
    let r = c.read_full in
    let is = mapped_ok _ r.result c.in_ok-n.ensures.cases c.in_ok-n.ensures.variant refl in
    reported c.answer.result r.result _ _ _ _ _ _ (search rules) is r.ensures.bound r.ensures.bytes r.ensures.end c.answer.ensures
