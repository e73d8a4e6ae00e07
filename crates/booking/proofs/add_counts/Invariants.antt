-- `booking::add_counts` meets its contract. The loop's invariant: the counters before this one have their counts added.
use Rattle.std.proofs.Common.{◌+◌, get_or}
use Rattle.tables.specs.Sizes.{members}
use Rattle.booking.proofs.Filling.{Filling}
use Rattle.booking.proofs.add_counts.Given as goal

abbrev pub invariant-loop-i : goal.invariant-loop-i
invariant-loop-i l = Filling members (λ k. get_or l.initial.block k 0 + get_or l.counts k 0) l.initial.block l.block l.i
