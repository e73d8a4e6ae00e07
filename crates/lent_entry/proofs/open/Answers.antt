-- `lent_entry::open` meets its contract: no loop; what the house did to the lists is put back where it accepts.
use mathlib.Core.Path.{refl}
use mathlib.Core.List.{[]}
use Rattle.answers.specs.Outcome.{held}
use Rattle.opening.specs.Open.{open_act}
use Rattle.lent.specs.Asks.{told_opened}
use Rattle.lent.proofs.Runs.{accepted, put-none, put-signed}
use borrow.Author.Rules.{rules}
use Rattle.lent_entry.proofs.open.Goals as goal

pub returns : goal.returns
returns c =
    accepted told_opened (held (open_act c.args.count c.args.b.now c.args.l.now)) _
    c.of.ensures c.«open».ensures c.in_ok-sum.was refl
    c.store.ensures
    (put-none 2 [])
    (put-signed _ {z = c.in_ok-sum.sum} (record { sfits = search rules }) c.write.ensures)
