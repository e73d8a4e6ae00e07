-- `opening::is_opening` meets its contract: members in order have a sum that fits an i64.
use mathlib.Core.Path.{◌≡◌}
use mathlib.Core.Bool.{true}
use native.Mathlib.Omega.{arith}
use lib.ListN.{length}
use Rattle.tables.specs.State.{every}
use Rattle.tables.proofs.Balances.{near-holder}
use Rattle.tables.proofs.Every.{every-at}
use Rattle.opening.specs.Open.{entry, opens_at}
use Rattle.opening.proofs.is_opening.Goals as goal

pub total-requires : goal.total-requires
total-requires c =
    let e : every (opens_at c.args.balances.now c.args.lines.now) (length c.args.balances.now) ≡ true = grind arith in
    record {
      few = grind arith;
      long = omega arith;
      near = λ i k. near-holder _ (entry c.args.lines.now i) (every-at (opens_at c.args.balances.now c.args.lines.now) (length c.args.balances.now) i e k);
    }
