-- `booking::balances` meets its contract: what is copied are the first accounts.
use lib.IntN.{pos}
use lib.Seq.{get_or-take}
use Rattle.tables.specs.Sizes.{members}
use Rattle.booking.proofs.balances.Goals as goal

pub returns : goal.returns
returns c i h = rw (c.copy_from_slice.ensures.after) (get_or-take members c.args.accounts.now i (pos 0) h)
