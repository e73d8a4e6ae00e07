-- `lent_settling::group` meets its contract: no loop; what the house did to the lists is put back where it accepts.
use mathlib.Core.Path.{refl}
use mathlib.Core.List.{[]}
use Rattle.answers.specs.Outcome.{called}
use Rattle.settling.specs.Group.{group_act}
use Rattle.lent.specs.Asks.{told_grouped}
use Rattle.lent.proofs.Runs.{accepted, put-none}
use Rattle.lent_settling.proofs.group.Goals as goal

pub returns : goal.returns
returns c =
    accepted told_grouped (called (group_act c.args.k.now)) _
    c.of.ensures c.group.ensures c.in_ok-d.was refl
    c.store.ensures
    (put-none 2 [])
    c.pair.ensures
