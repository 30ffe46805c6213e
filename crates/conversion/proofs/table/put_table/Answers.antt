-- Past the last byte all 1,024 are written.
use Rattle.std.proofs.Common.{arith}
use Rattle.conversion.proofs.TableLaws.{table_end}
use Rattle.conversion.proofs.table.put_table.Goals as goal

pub returns : goal.returns
returns c = table_end _ _ _ _ (omega (arith, c.loop-k-test.false, c.loop-k.auto.k-end)) c.loop-k.invariant
