-- `nightloop::step` meets its contract: each arm takes the session on; a read puts any bytes into the chunk.
use Rattle.nightloop.proofs.Steps.{stood-taken, stood-ate, stood-closed}
use Rattle.nightloop.specs.declared.Run.{Run}
use Rattle.nightloop.specs.Steps.{SoFar}
use Rattle.tables.specs.Layout.{Tables, tables}
use mathlib.Core.Path.{subst, sym}
use Rattle.nightloop.proofs.step.Goals as goal

pub returns-in-Read : goal.returns-in-Read
returns-in-Read c =
    let t : Tables = tables c.args.accounts.now c.args.counters.now c.args.pays.now in
    let b = c.read_on.new.chunk in
    let k = c.read_on.ensures in
    subst (λ (x : Run). SoFar x.next x b c.args.buf.now t c.args.out.now) (sym k.is)
    (stood-taken b k.got k.within (rw c.in-Read.is at c.requires))

pub returns-in-Eat : goal.returns-in-Eat
returns-in-Eat c = stood-ate (rw c.in-Eat.is at c.requires) c.eat_on.ensures

pub returns-in-Close : goal.returns-in-Close
returns-in-Close c = stood-closed (rw c.in-Close.is at c.requires) c.close_on.ensures
