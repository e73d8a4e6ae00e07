-- `finder::link_all` meets its contract. The loop's invariant: the payments of the first `m` places are in and linked.
use Rattle.finder.specs.Tops.{AllIn, Linked}
use Rattle.finder.proofs.link_all.Given as goal

abbrev pub invariant-loop-m : goal.invariant-loop-m
invariant-loop-m l = record { all_in : AllIn l.m l.pays l.tops; linked : Linked l.m l.pays l.befores }
