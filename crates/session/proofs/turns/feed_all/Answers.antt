use Rattle.session.proofs.Desks.{going-first, going_next, goes-at}
use mathlib.Core.Path.{sym, ◌∙◌}
use Rattle.session.proofs.turns.feed_all.Goals as goal

pub loop-buf-init : goal.loop-buf-init
loop-buf-init c = (going-first _ _ c.requires.fit, c.requires.lengths)

pub loop-buf-preserved : goal.loop-buf-preserved
loop-buf-preserved c = let g = c.loop-buf.invariant in
    let r = c.turn_on-t in
    let e = goes-at c.args.chunk.now c.loop-buf.t.at g.0 (sym c.goes_on.ensures ∙ c.loop-buf-test.true) in
    (going_next g.0 e r.ensures.turn r.ensures.fits.0 r.ensures.fits.3 r.auto.out, r.ensures.fits.1)
