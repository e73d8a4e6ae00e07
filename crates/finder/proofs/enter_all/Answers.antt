use Rattle.finder.proofs.Start.{entered-next}
use Rattle.finder.proofs.enter_all.Goals as goal

pub loop-w-preserved : goal.loop-w-preserved
loop-w-preserved c = entered-next c.requires c.loop-w-test.true c.loop-w.invariant c.enter.ensures
