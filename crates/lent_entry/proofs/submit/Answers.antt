-- `lent_entry::submit` meets its contract: no loop; what the house did to the lists is put back where it accepts.
use mathlib.Core.Path.{refl}
use mathlib.Core.List.{[]}
use Rattle.answers.specs.Outcome.{called}
use Rattle.entry.specs.Submit.{submit_act}
use Rattle.lent.specs.Asks.{told_submitted}
use Rattle.lent.proofs.Runs.{accepted, put-none}
use Rattle.lent_entry.proofs.submit.Goals as goal

pub returns : goal.returns
returns c =
    accepted told_submitted (called (submit_act c.args.payer c.args.number c.args.payee c.args.amount)) _
    c.of.ensures c.submit.ensures c.in_ok-submit.was refl
    c.store.ensures
    (put-none 2 [])
    (put-none 8 [])
