-- `finder::Search::step` meets its contract. The loop's invariant: the step from the member has come to `m`. The measure is the sum of the
-- tops, and where that stays the set of those due.
use Rattle.std.specs.Prelude.{◌+◌, ◌*◌, ◌^◌, length}
use Rattle.finder.specs.Tops.{height}
use Rattle.finder.proofs.Steps.{Stepping}
use Rattle.finder.proofs.Search.step.Given as goal

abbrev pub invariant-loop-m : goal.invariant-loop-m
invariant-loop-m l = let s = l.self in
    Stepping l.taken s.count (length s.pays.now) l.member l.m l.due s.pays.now s.lines.now l.initial.positions l.positions l.initial.tops l.tops

abbrev pub decreases-loop-m : goal.decreases-loop-m
decreases-loop-m l = height l.tops * 2 ^ 64 + l.due
