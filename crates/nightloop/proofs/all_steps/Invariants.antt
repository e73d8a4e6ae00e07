-- `nightloop::all_steps` meets its contract: the invariant: the session so far.
use Rattle.nightloop.specs.Steps.{SoFar}
use Rattle.tables.specs.Layout.{tables}
use Rattle.nightloop.proofs.all_steps.Given as goal

abbrev pub invariant-steps : goal.invariant-steps
invariant-steps l =
    SoFar l.r.next l.r l.chunk l.buf (tables l.accounts l.counters l.pays) l.out
