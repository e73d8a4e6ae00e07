-- `dayfile::lines::eat` meets its contract. The invariant: what eating finds from byte k on, with what is held there, is what it finds from
-- the first byte on.
use Rattle.std.proofs.Common.{◌≤◌, drop}
use Rattle.dayfile.proofs.Eating.{Going}
use Rattle.dayfile.specs.Chunks.{eat_of, state_of}
use Rattle.dayfile.specs.Lines.{most_bytes}
use Rattle.dayfile.proofs.lines.eat.Given as goal

abbrev pub invariant-loop-k : goal.invariant-loop-k
invariant-loop-k l =
    (l.t.held ≤ most_bytes)
    × Going (eat_of l.b-items (state_of l.initial.buf l.initial.t)) (eat_of (drop l.k l.b-items) (state_of l.buf l.t)) l.k
