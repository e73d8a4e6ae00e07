use Rattle.session.proofs.Desks.{going-first, going_next, closes-at}
use mathlib.Core.List.{[]}
use mathlib.Core.Path.{sym, ◌∙◌}
use Rattle.session.proofs.turns.close_all.Goals as goal

pub loop-counts-init : goal.loop-counts-init
loop-counts-init c = going-first [] _ c.requires

pub loop-counts-preserved : goal.loop-counts-preserved
loop-counts-preserved c = let g = c.loop-counts.invariant in
    let r = c.close_on-t in
    let e = closes-at g (sym c.closes_on.ensures ∙ c.loop-counts-test.true) in
    going_next g e r.ensures.turn r.ensures.fit.0 r.ensures.fit.2 r.auto.out
