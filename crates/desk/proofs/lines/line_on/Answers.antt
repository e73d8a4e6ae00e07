-- `desk::lines::line_on` meets its contract: no loop.
use native.Mathlib.Omega.{arith}
use Rattle.dayfile.specs.Lines.{Line}
use Rattle.dayfile.specs.Chunks.{held_line, state_of}
use Rattle.desk.proofs.Steps.{line_read}
use Rattle.desk.proofs.lines.line_on.Goals as goal

pub take_line-requires : goal.take_line-requires
take_line-requires c = let l : Line = held_line (state_of c.args.buf.now c.args.s.cut) in
    (c.requires.fit.0, line_read l c.read-e.ensures, omega arith, c.requires.lengths.1)
