-- `dayfile::read_numbers` meets its contract. The invariant: the n numbers that were read, with what is read of the line from at on, are
-- all that is read of it.
use lib.ListN.{length}
use Prim.Native.Nat.{◌+◌, ◌-◌}
use Rattle.dayfile.proofs.Numbers.{Turned}
use Rattle.dayfile.specs.Entries.{most_counts, numbers_of}
use Rattle.dayfile.specs.Fields.{fields_from}
use Rattle.dayfile.proofs.read_numbers.Given as goal

abbrev pub invariant-loop-at : goal.invariant-loop-at
invariant-loop-at l = Turned l.line (numbers_of most_counts (fields_from l.from l.line)) l.initial.counts l.counts l.at l.n

abbrev pub decreases-loop-at : goal.decreases-loop-at
decreases-loop-at l = length l.line + 1 - l.at
