-- `booking::close_up` meets its contract. The loop's invariant: the places before `to`, with what stays of the places from this one on, are all
-- that stays; and the sum, with what leaves of them, is the sum of all that leaves.
use Rattle.booking.proofs.Closing.{Closing}
use Rattle.booking.proofs.close_up.Given as goal

abbrev pub invariant-loop-from : goal.invariant-loop-from
invariant-loop-from l = Closing l.initial.waiting l.initial.left.counts l.waiting l.left.counts l.sum l.from l.to l.gone
