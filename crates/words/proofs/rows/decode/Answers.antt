use Rattle.std.proofs.Common.{arith}
use Rattle.words.proofs.RowTurns.{fill-turn, fill_end}
use Rattle.words.proofs.rows.decode.Goals as goal

pub loop-i-preserved : goal.loop-i-preserved
loop-i-preserved g c = fill-turn c.loop-i.invariant (omega arith) (rw c.WIDTH.ensures at c.read.ensures)

pub returns : goal.returns
returns g c = fill_end c.loop-i.invariant (omega arith)
