-- `booking::book_head` meets its contract: the amount moves, the gap of one is closed, and the counters follow.
use mathlib.Core.Path.{sym, ap, ◌∙◌}
use mathlib.Core.List.{◌++◌}
use native.Mathlib.Omega.{arith}
use lib.ListN.{drop}
use lib.Seq.{length-take-le}
use Rattle.tables.specs.Sizes.{members}
use Rattle.tables.proofs.Same.{tables-same}
use Rattle.booking.specs.Booking.{booked_in}
use Rattle.booking.proofs.Heads.{head-steady, head-waits, accounts-head, pays-head}
use Rattle.booking.proofs.book_head.Goals as goal

pub slice_bounds-enter-end-2 : goal.slice_bounds-enter-end-2
slice_bounds-enter-end-2 c = sym (length-take-le members c.args.accounts.now (omega (arith, c.requires.0.accounts.long)))

pub enter-requires-clause-steady : goal.enter-requires-clause-steady
enter-requires-clause-steady c = head-steady c.requires.0

pub count_head-requires : goal.count_head-requires
count_head-requires c = let w = head-waits c.requires.0 c.requires.1 c.requires.2 in
    (c.requires.0.counters.broad, c.requires.1, w.0, w.1)

pub returns : goal.returns
unfolding booked_in
returns c =
    tables-same
    (ap (λ r. r ++ drop members c.args.accounts.now) c.enter.ensures ∙ accounts-head c.requires.0 c.requires.1 c.requires.2)
    c.count_head.ensures
    (pays-head c.requires.0 c.requires.1 c.requires.2 c.close_one.new.s c.close_one.ensures)
