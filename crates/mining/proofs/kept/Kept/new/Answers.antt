-- Zeros, with a count of 0 before them.
use Rattle.mining.proofs.KeptLaws.{kept_none}
use Rattle.mining.proofs.kept.Kept.new.Goals as goal

pub returns : goal.returns
returns c = kept_none
