use Rattle.std.proofs.Common.{◌≡◌, ◌<◌, arith}
use Rattle.std.proofs.lemmas.List.{length-take-le, get_or-take}
use Rattle.finder.proofs.Counts.{counted_start, counted-in, counted-out, counted-end}
use Rattle.finder.proofs.count_below.Goals as goal
use Rattle.finder.proofs.count_below.Goals.{then-m-tops, else-m-tops}

pub loop-m-init : goal.loop-m-init
loop-m-init c = counted_start

pub loop-m-preserved : goal.loop-m-preserved
loop-m-preserved c =
    let a = c.args in
    let l = c.loop-m in
    let here : l.m < a.used = omega (arith, length-take-le a.used a.pays.now c.requires.topped.places) in
    let e = rw (get_or-take a.used a.pays.now l.m 0 here) at c.payer_of-payer.ensures in
    elim c.if-m-tops.branch [
      | then-m-tops w ↦ counted-in (omega (arith, c.requires.topped.places)) l.invariant (rw e at w.if-m-tops.true) (rw e at w.counts-is)
      | else-m-tops w ↦ counted-out (omega (arith, c.requires.topped.places)) l.invariant (rw (← e) (omega (arith, w.if-m-tops.false))) w.counts-is
    ]

pub returns : goal.returns
returns c =
    let a = c.args in
    let e : c.loop-m.m ≡ a.used = omega (arith, length-take-le a.used a.pays.now c.requires.topped.places) in
    counted-end c.requires.topped (rw e at c.loop-m.invariant)
