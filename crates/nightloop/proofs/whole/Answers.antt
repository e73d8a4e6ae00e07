-- `nightloop::whole` meets its contract: before the first step nothing was read, and nothing written.
use Rattle.nightloop.proofs.Steps.{stood-first}
use Rattle.nightloop.proofs.whole.Goals as goal

pub all_steps-requires : goal.all_steps-requires
all_steps-requires c =
    rw (c.run_of-r.ensures, c.start.ensures, c.in-Some.ensures.cases.same, c.in-Some-as_mut_array.ensures.cases.same, c.in-Some-as_mut_array-3.ensures.cases.same)
    (stood-first c.requires.1)
