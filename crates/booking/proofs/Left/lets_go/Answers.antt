-- `booking::Left::lets_go` meets its contract: a payment whose payer's count is 0 stays, and each other is counted.
use native.Mathlib.Omega.{arith}
use Rattle.booking.proofs.Passing.{passes-one, one-of-more, one_fewer}
use Rattle.booking.proofs.Left.lets_go.Goals as goal

pub overflow_sub-self-else-self-seat-eq0 : goal.overflow_sub-self-else-self-seat-eq0
overflow_sub-self-else-self-seat-eq0 c = let l = c.args.self.now in
    one-of-more l.counts c.args.w (omega arith) (rw c.payer_of-seat.ensures at c.if-self-seat-eq0.false) l.summed

pub invariant_of-self : goal.invariant_of-self
invariant_of-self c = let l = c.args.self.now in
    record { summed = rw c.payer_of-seat.ensures (one_fewer l.counts c.args.w (omega arith) (rw c.payer_of-seat.ensures at c.if-self-seat-eq0.false) l.summed) }

pub returns-else-self-seat-eq0 : goal.returns-else-self-seat-eq0
returns-else-self-seat-eq0 c = rw c.payer_of-seat.ensures
    (passes-one c.args.self.now.counts c.args.w (omega arith) (rw c.payer_of-seat.ensures at c.if-self-seat-eq0.false))
