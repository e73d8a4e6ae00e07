-- `opening::fill_accounts` meets its contract: the balances and the lines are put in what was filled.
use mathlib.Core.Path.{◌≡◌, refl}
use Prim.Native.Nat.{◌+◌, ◌-◌}
use native.Mathlib.Omega.{arith}
use lib.IntN.{pos}
use lib.ListN.{length}
use Rattle.tables.specs.Sizes.{table}
use Rattle.tables.specs.Layout.{lines_at}
use Rattle.opening.proofs.Filled.{filled-same, filled-accounts}
use Rattle.opening.proofs.fill_accounts.Goals as goal

pub returns : goal.returns
returns c =
    let z = filled-same table (pos 0) c.args.accounts.now c.requires.table_in_bounds (c.fill.ensures.after (λ y e. e)) in
    let b = c.args.balances.now in
    let k : lines_at + length b - lines_at ≡ length b = omega arith in
    let r = c.requires.n_le_members in
    rw (k, c.copy_from_slice-2.ensures.after, c.copy_from_slice.ensures.after, z)
    (filled-accounts (length b) b c.args.lines.now c.args.accounts.now r.0 refl r.1 c.requires.table_in_bounds)
