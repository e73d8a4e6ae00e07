-- `resolving::still_waiting` meets its contract. The loop's invariant: the number holds the members from i on, so that it can be doubled.
use Rattle.sets.proofs.Highest.{Read}
use Rattle.tables.specs.Layout.{count_of}
use Rattle.resolving.specs.Resolve.{has_waiting}
use Rattle.resolving.proofs.still_waiting.Given as goal

abbrev pub invariant-loop-i : goal.invariant-loop-i
invariant-loop-i l = Read (count_of l.counters) (has_waiting l.counters) l.set l.i
