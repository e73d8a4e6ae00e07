-- `finder::Search::round` meets its contract. The loop's invariant: the round is past the members below `member`.
use Rattle.std.specs.Prelude.{length}
use Rattle.finder.specs.Finder.{Rounded}
use Rattle.finder.proofs.Search.round.Given as goal

abbrev pub invariant-loop-member : goal.invariant-loop-member
invariant-loop-member l = let s = l.self in
    Rounded l.any s.count (length s.pays.now) l.member s.pays.now s.lines.now l.initial.positions l.positions l.initial.tops l.tops
