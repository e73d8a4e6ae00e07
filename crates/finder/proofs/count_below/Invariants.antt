-- `finder::count_below` meets its contract. The loop's invariant: the counts are those of what leaves the first `m` places.
use Rattle.finder.proofs.Counts.{Counted}
use Rattle.finder.proofs.count_below.Given as goal

abbrev pub invariant-loop-m : goal.invariant-loop-m
invariant-loop-m l = Counted l.m l.pays l.tops l.counts
