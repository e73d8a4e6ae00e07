-- `desk::chunks::part_on` meets its contract: no loop; the line goes by way of the buffer.
use Rattle.dayfile.specs.Chunks.{state_of}
use Rattle.desk.proofs.Eating.{eat-more}
use Rattle.desk.proofs.Writing.{grown-none}
use Rattle.desk.proofs.chunks.part_on.Goals as goal

pub returns-then-a-clause-fits : goal.returns-then-a-clause-fits
returns-then-a-clause-fits c =
    let a = c.eat-a in
    let d = c.line_on-state in (
      d.ensures.fits.0,
      eat-more c.args.chunk.now c.args.from (state_of c.args.buf.now c.args.s.cut) a.result.at a.ensures.ate_so.place c.requires.lengths.0,
      a.ensures.at_in_bounds.0,
      d.ensures.fits.2,
    )

pub returns-clause-fits : goal.returns-clause-fits
returns-clause-fits c =
    let a = c.eat-a in
    let f = c.requires.fit.0 in (
      record { few = f.few; room = f.room; held = a.ensures.at_in_bounds.1; stands = f.stands },
      eat-more c.args.chunk.now c.args.from (state_of c.args.buf.now c.args.s.cut) a.result.at a.ensures.ate_so.place c.requires.lengths.0,
      a.ensures.at_in_bounds.0,
      grown-none c.args.s.used c.args.out.now,
    )
