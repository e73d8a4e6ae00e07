-- `lent_settling::release` meets its contract: no loop; what the house did to the lists is put back where it accepts.
use mathlib.Core.Path.{refl}
use mathlib.Core.List.{[]}
use Rattle.answers.specs.Outcome.{called}
use Rattle.settling.specs.Release.{release_act}
use Rattle.lent.specs.Asks.{told_released}
use Rattle.lent.proofs.Runs.{accepted, put-none}
use Rattle.lent_settling.proofs.release.Goals as goal

pub returns : goal.returns
returns c =
    accepted told_released (called (release_act c.args.member)) _
    c.of.ensures c.release.ensures c.in_ok-d.was refl
    c.store.ensures
    (put-none 2 [])
    c.pair.ensures
