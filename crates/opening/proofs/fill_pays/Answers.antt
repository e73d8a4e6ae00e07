-- `opening::fill_pays` meets its contract: a slice that is filled holds one value.
use Rattle.tables.specs.Sizes.{places}
use Rattle.opening.proofs.Filled.{filled-same}
use Rattle.opening.proofs.fill_pays.Goals as goal

pub returns : goal.returns
returns c = filled-same places 0 c.args.pays.now c.requires (c.fill.ensures.after (λ y e. e))
