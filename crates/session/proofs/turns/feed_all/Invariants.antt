-- `session::turns::feed_all` meets its contract. The invariant: turns led here, and before each of them it went on.
use Rattle.session.proofs.Desks.{Going}
use Rattle.session.specs.Turns.{turn_of, goes_on}
use Rattle.desk.specs.States.{desk_of, turns_left}
use Rattle.tables.specs.Layout.{tables}
use lib.ListN.{length, drop}
use Prim.Native.Nat.{◌-◌, ◌≤◌}
use Rattle.session.proofs.turns.feed_all.Given as goal

abbrev pub invariant-loop-buf : goal.invariant-loop-buf
invariant-loop-buf l =
    Going turn_of (goes_on (length l.initial.out)) (desk_of (drop l.from l.chunk) l.initial.t.state (tables l.initial.accounts l.initial.counters l.initial.pays) l.initial.out l.initial.buf) l.initial.t.state.used l.initial.out
    (drop l.t.at l.chunk) l.buf l.out (tables l.accounts l.counters l.pays) l.t.state
    × (l.t.at ≤ length l.chunk)

abbrev pub decreases-loop-buf : goal.decreases-loop-buf
decreases-loop-buf l =
    turns_left l.t.state.stage (length l.chunk - l.t.at)
