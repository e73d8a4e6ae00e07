-- `tables::look::total` meets its contract. The loop's invariant: the sum is that of the balances so far.
use mathlib.Core.Path.{◌≡◌}
use Rattle.rule.specs.House.{money}
use Rattle.tables.specs.Layout.{balance_of}
use Rattle.tables.proofs.look.total.Given as goal

abbrev pub invariant-loop-b : goal.invariant-loop-b
invariant-loop-b l = l.sum ≡ money l.b-index (balance_of l.balances)
