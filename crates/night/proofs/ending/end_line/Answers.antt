-- `night::ending::end_line` meets its contract: no loop.
use Rattle.night.proofs.EndLines.{end-balance, end-money}
use Rattle.tables.specs.Layout.{Tables, tables}
use Rattle.tables.proofs.Balances.{accounts-bounded}
use Rattle.rule.proofs.Ints.{plain}
use native.Mathlib.Omega.{arith}
use Rattle.night.proofs.ending.end_line.Goals as goal

pub returns-then-k-from : goal.returns-then-k-from
returns-then-k-from c = let t : Tables = tables c.args.accounts.now c.args.counters.now c.args.pays.now in
    simp (plain, c.result-1.given, c.waiting_of-left.ensures, c.from-then-k-from.ensures) (end-balance t c.requires.holds c.args.k (omega arith))

pub total-requires : goal.total-requires
total-requires c = accounts-bounded c.requires.holds.accounts

pub returns : goal.returns
returns c = let t : Tables = tables c.args.accounts.now c.args.counters.now c.args.pays.now in
    let g = c.total.type_inv in
    simp plain (end-money t c.requires.holds c.args.k c.total.result c.total.ensures (omega arith))
