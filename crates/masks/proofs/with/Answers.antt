-- `1 << place` is the power at that place, since the place is below the width.
use Rattle.masks.proofs.BitLaws.{with_code}
use Rattle.masks.proofs.with.Goals as goal

pub returns : goal.returns
returns c =
    with_code 32 _ _ c.requires
