use native.Mathlib.Omega.{arith}
use lib.IntN.{ℤ}
use lib.ListN.{length-take}
use Rattle.tables.proofs.Balances.{sum-turn}
use Rattle.tables.proofs.look.total.Goals as goal

pub overflow_add-sum : goal.overflow_add-sum
overflow_add-sum c = (sum-turn c.requires c.loop-b.b-index c.loop-b.sum-bits (omega (arith, length-take {A = ℤ})) c.loop-b.invariant).0

pub loop-b-preserved : goal.loop-b-preserved
loop-b-preserved c = (sum-turn c.requires c.loop-b.b-index c.loop-b.sum-bits (omega (arith, length-take {A = ℤ})) c.loop-b.invariant).1
