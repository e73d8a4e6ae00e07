use Rattle.std.proofs.Common.{arith}
use Rattle.words.proofs.RowTurns.{write-turn, write-end}
use Rattle.words.proofs.rows.encode.Goals as goal

pub loop-i-preserved : goal.loop-i-preserved
loop-i-preserved g c = write-turn c.loop-i.invariant (omega arith) c.index-xs-i.is (rw c.WIDTH.ensures at c.write.ensures)

pub returns : goal.returns
returns g c = write-end c.loop-i.invariant (omega arith)
