use native.Mathlib.Omega.{arith}
use Rattle.tables.specs.Sizes.{members}
use Rattle.booking.proofs.Filling.{filling-start, filling-here, filling-turn}
use Rattle.booking.proofs.add_counts.Goals as goal

pub loop-i-init : goal.loop-i-init
loop-i-init c = filling-start members _ _ (omega arith)

pub overflow_add-block : goal.overflow_add-block
overflow_add-block c = omega (arith, filling-here c.loop-i.invariant 0, c.requires.by_index c.loop-i.i (omega arith))

pub loop-i-preserved : goal.loop-i-preserved
loop-i-preserved c = filling-turn c.loop-i.invariant (omega arith) _ (omega (arith, filling-here c.loop-i.invariant 0))
