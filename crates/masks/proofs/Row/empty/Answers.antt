-- Every element of a repeat of 0 is 0.
use Rattle.masks.proofs.TableLaws.{get_or_zeros}
use Rattle.masks.proofs.Row.empty.Goals as goal

pub returns : goal.returns
returns c = get_or_zeros 32
