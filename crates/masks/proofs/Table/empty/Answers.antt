-- Every row is the empty row.
use Rattle.masks.proofs.TableLaws.{repeat_mask}
use Rattle.masks.proofs.Table.empty.Goals as goal

pub returns : goal.returns
returns c = repeat_mask 32 c.empty-row.result c.empty-row.ensures
