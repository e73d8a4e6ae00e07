-- `settling::widened` meets its contract: no loop; zeros stand behind the counts.
use Rattle.tables.specs.Sizes.{members}
use Rattle.settling.proofs.Counts.{listed-widened}
use Rattle.settling.proofs.widened.Goals as goal

pub returns : goal.returns
returns c = rw c.copy_from_slice.ensures.after (listed-widened c.args.counts.now members)
