-- `lent_entry::deposit` meets its contract: no loop; what the house did to the lists is put back where it accepts.
use mathlib.Core.Path.{refl}
use mathlib.Core.List.{[]}
use Rattle.answers.specs.Outcome.{called}
use Rattle.entry.specs.Deposit.{deposit_act}
use Rattle.lent.specs.Asks.{told_deposited}
use Rattle.lent.proofs.Runs.{accepted, put-none, put-signed}
use borrow.Author.Rules.{rules}
use Rattle.lent_entry.proofs.deposit.Goals as goal

pub returns : goal.returns
returns c =
    accepted told_deposited (called (deposit_act c.args.member c.args.amount)) _
    c.of.ensures c.deposit.ensures c.in_ok-balance.was refl
    c.store.ensures
    (put-none 2 [])
    (put-signed _ {z = c.in_ok-balance.balance} (record { sfits = search rules }) c.write.ensures)
