-- `daylines::resolve` meets its contract: no loop.
use mathlib.Core.Path.{◌≡◌}
use mathlib.Core.List.{List}
use Prim.Native.Nat.{ℕ}
use lib.ListN.{length, get_or, take, replicate, length-take}
use native.Mathlib.Omega.{arith}
use Rattle.tables.specs.Sizes.{members}
use Rattle.tables.specs.Layout.{Tables, tables, members_in}
use Rattle.daylines.proofs.Settling.{resolve-line, never-refused}
use Rattle.daylines.proofs.resolve.Goals as goal

pub returns-in-Ok : goal.returns-in-Ok
returns-in-Ok c = let t : Tables = tables c.args.accounts.now c.args.counters.now c.args.pays.now in
    let k : List ℕ = take (get_or c.args.counters.now 0 0) (replicate members 0) in
    let long : length k ≡ members_in t = simp length-take (omega (arith, c.requires.counters.few)) in
    rw c.told.ensures (resolve-line t c.args.n k c.requires long (rw c.in-Ok.is at c.resolve.ensures.pays_after))

pub returns-in-Err : goal.returns-in-Err
returns-in-Err c = let t : Tables = tables c.args.accounts.now c.args.counters.now c.args.pays.now in
    let k : List ℕ = take (get_or c.args.counters.now 0 0) (replicate members 0) in
    let long : length k ≡ members_in t = simp length-take (omega (arith, c.requires.counters.few)) in
    absurd (never-refused t k _ long (rw c.in-Err.is at c.resolve.ensures.pays_after))
