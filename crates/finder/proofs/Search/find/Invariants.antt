-- `finder::Search::find` meets its contract. The loop's invariant: every house that stood so at first still does. The measure is the sum
-- of the tops.
use Rattle.std.specs.Prelude.{length}
use Rattle.finder.specs.Tops.{height}
use Rattle.finder.specs.Finder.{InRange, Keeps}
use Rattle.finder.proofs.Search.find.Given as goal

abbrev pub invariant-loop : goal.invariant-loop
invariant-loop l = let s = l.self in record {
  ranges : InRange (length s.pays.now) s.pays.now l.positions s.lines.now l.tops;
  keeps : Keeps s.count (length s.pays.now) s.pays.now s.lines.now l.initial.positions l.initial.tops l.positions l.tops;
}

abbrev pub decreases-loop : goal.decreases-loop
decreases-loop l = height l.tops
