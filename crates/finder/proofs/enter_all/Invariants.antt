-- `finder::enter_all` meets its contract. The loop's invariant: the payments before the one at hand are entered.
use Rattle.finder.specs.Positions.{Entered}
use Rattle.finder.proofs.enter_all.Given as goal

abbrev pub invariant-loop-w : goal.invariant-loop-w
invariant-loop-w l = Entered l.w-index l.pays l.initial.positions l.positions
