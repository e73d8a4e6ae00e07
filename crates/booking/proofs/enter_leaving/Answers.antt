use mathlib.Core.Path.{◌∙◌}
use native.Mathlib.Omega.{arith}
use Rattle.booking.proofs.Entering.{underway-stay, underway-leave}
use Rattle.booking.proofs.enter_leaving.Goals as goal
use Rattle.booking.proofs.enter_leaving.Goals.{then-leaves, else-leaves}

pub loop-w-preserved : goal.loop-w-preserved
loop-w-preserved c = let v = c.loop-w.invariant in
    elim c.if-leaves.branch [
      | then-leaves w ↦ rw (w.positions-is ∙ w.enter.ensures) (underway-leave c.requires (omega arith) v _ (rw w.if-leaves.true at c.lets_go-leaves.ensures))
      | else-leaves w ↦ rw w.positions-is (underway-stay c.requires (omega arith) v _ (rw w.if-leaves.false at c.lets_go-leaves.ensures))
    ]
