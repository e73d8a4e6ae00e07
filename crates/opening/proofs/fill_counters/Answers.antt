-- `opening::fill_counters` meets its contract: the count is set in what was filled.
use mathlib.Core.Path.{ap, ◌∙◌}
use mathlib.Core.List.{List}
use Prim.Native.Nat.{ℕ}
use lib.ListN.{set}
use Rattle.tables.specs.Sizes.{table}
use Rattle.tables.specs.Layout.{members_at}
use Rattle.opening.proofs.Filled.{filled-same, filled-count}
use Rattle.opening.proofs.fill_counters.Goals as goal

pub returns : goal.returns
returns c =
    let z = filled-same table 0 c.args.counters.now c.requires.0 (c.fill.ensures.after (λ y e. e)) in
    ap (λ (l : List ℕ). set l members_at c.args.n) z ∙ filled-count c.args.n c.args.counters.now c.requires.0
