-- `booking::weigh` meets its contract: the balances, with the payments entered that leave.
use native.Mathlib.Omega.{arith}
use Rattle.booking.proofs.Entering.{weighed, can-enter-waiting}
use Rattle.booking.proofs.weigh.Goals as goal

pub enter_leaving-requires : goal.enter_leaving-requires
enter_leaving-requires c = can-enter-waiting c.requires c.balances-positions.result (omega arith) c.balances-positions.ensures

pub returns : goal.returns
returns c = rw (c.enter_leaving.ensures, c.of.ensures) (weighed c.requires c.balances-positions.result (omega arith) c.balances-positions.ensures)
