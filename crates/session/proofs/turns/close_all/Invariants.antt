-- `session::turns::close_all` meets its contract. The invariant: turns led here, and before each of them it went on.
use Rattle.session.proofs.Desks.{Going}
use Rattle.session.specs.Turns.{close_turn, closes_on}
use Rattle.desk.specs.States.{desk_of, turns_left}
use Rattle.tables.specs.Layout.{tables}
use lib.ListN.{length}
use mathlib.Core.List.{[]}
use Rattle.session.proofs.turns.close_all.Given as goal

abbrev pub invariant-loop-counts : goal.invariant-loop-counts
invariant-loop-counts l =
    Going close_turn (closes_on (length l.initial.out)) (desk_of [] l.initial.t (tables l.initial.accounts l.initial.counters l.initial.pays) l.initial.out l.buf) l.initial.t.used l.initial.out [] l.buf l.out
    (tables l.accounts l.counters l.pays) l.t

abbrev pub decreases-loop-counts : goal.decreases-loop-counts
decreases-loop-counts l =
    turns_left l.t.stage l.t.cut.held
