-- The file's refusals come first; what an accepted file's decoded form holds stands for its matter.
use Rattle.std.proofs.Common.{refl}
use Rattle.house_layout.proofs.Exits.{left_with}
use Rattle.canonical.specs.Calls.{write_call}
use Rattle.canonical.proofs.DecodedLaws.{decoded_stands}
use Rattle.canonical.proofs.call.write_call.Goals as goal

pub write_matter-requires : goal.write_matter-requires
write_matter-requires c = let r = c.in_ok-house.ensures in (_, decoded_stands _ r.0 _ r.1)

pub returns-in_err-house : goal.returns-in_err-house
unfolding write_call
returns-in_err-house c = rw (c.in_err-house.ensures, left_with _ c.from_residual.ensures.1) (refl, refl)

pub returns : goal.returns
unfolding write_call
returns c = let r = c.in_ok-house.ensures in rw r.0 (c.write_matter.ensures _ (decoded_stands _ r.0 _ r.1))
