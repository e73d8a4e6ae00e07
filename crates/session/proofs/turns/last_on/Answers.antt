-- `session::turns::last_on` meets its contract: no loop.
use mathlib.Core.Path.{◌∙◌}
use native.Mathlib.Omega.{arith}
use Rattle.tables.specs.Layout.{Tables, tables}
use Rattle.session.proofs.Desks.{last_line, fewer_bytes}
use Rattle.session.proofs.turns.last_on.Goals as goal

pub returns-then-s-gt0-clause-out_after : goal.returns-then-s-gt0-clause-out_after
returns-then-s-gt0-clause-out_after c = let t : Tables = tables c.args.accounts.now c.args.counters.now c.args.pays.now in
    c.line_on.ensures.out_after ∙ last_line c.args.s t c.args.out.now c.args.buf.now c.if-s-gt0.true (omega (arith, c.requires.fit.0.held))

pub returns-then-s-gt0-clause-fits : goal.returns-then-s-gt0-clause-fits
returns-then-s-gt0-clause-fits c = let r = c.line_on in (
  r.ensures.fits.0,
  r.ensures.fits.1,
  fewer_bytes r.result.stage c.args.s.stage 0 c.args.s.cut.held c.if-s-gt0.true c.requires.fit.1 c.requires.fit.2,
  r.ensures.fits.2,
)
