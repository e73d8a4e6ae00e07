-- `booking::enter_leaving` meets its contract. The loop's invariant: what is entered, with what is still to be entered, is all that leaves.
use Rattle.booking.proofs.Entering.{Underway}
use Rattle.booking.proofs.enter_leaving.Given as goal

abbrev pub invariant-loop-w : goal.invariant-loop-w
invariant-loop-w l = Underway l.waiting l.initial.positions l.initial.left.counts l.positions l.left.counts l.w-index
