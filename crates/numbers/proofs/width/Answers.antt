-- `numbers::width` meets its contract. A power of ten is at most x, and the next is above it.
use Rattle.numbers.proofs.Writing.{width_is}
use Rattle.numbers.proofs.width.Goals as goal

pub returns : goal.returns
returns c = width_is c.args.x c.max.result c.ilog10.result c.max.ensures c.ilog10.ensures.power_le c.ilog10.ensures.next_power_gt c.ilog10.ensures.bound
