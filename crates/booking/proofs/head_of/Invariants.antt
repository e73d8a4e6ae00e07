-- `booking::head_of` meets its contract. The invariant: the member pays no payment before this block.
use Rattle.std.proofs.Common.{◌*◌, take}
use Rattle.booking.proofs.Heads.{Behind}
use Rattle.booking.proofs.head_of.Given as goal

abbrev pub invariant-loop-k : goal.invariant-loop-k
invariant-loop-k l = Behind l.seat (l.k * 16) (take l.used l.pays)
