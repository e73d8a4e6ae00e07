-- `booking::count_head` meets its contract: two stores, at two places.
use Prim.Native.Nat.{◌+◌}
use Rattle.tables.specs.Layout.{settled_of}
use Rattle.booking.proofs.Heads.{counters-head, waiting_kept}
use Rattle.booking.proofs.count_head.Goals as goal

pub returns : goal.returns
returns c = rw (waiting_kept c.args.counters.now c.args.seat (settled_of c.args.counters.now c.args.seat + 1))
    (counters-head c.args.counters.now c.args.seat c.requires.0 c.requires.1)
