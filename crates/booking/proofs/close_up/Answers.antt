use mathlib.Core.Path.{◌≡◌, ap}
use mathlib.Core.List.{[]}
use Prim.Native.Nat.{◌<◌}
use native.Mathlib.Omega.{arith}
use lib.ListN.{length, drop, drop_of_length-le}
use Rattle.rule.specs.Table.{leaving}
use Rattle.booking.specs.Booking.{listed}
use Rattle.booking.proofs.Closing.{closing-small, closing-keep, closing-go, closing-sum, closing_end}
use Rattle.booking.proofs.close_up.Goals as goal
use Rattle.booking.proofs.close_up.Goals.{then-stays, else-stays, else-loop-from-test, then-loop-from-test+then-is_used_up}

pub overflow_add-sum : goal.overflow_add-sum
overflow_add-sum c = omega (arith, closing-small c.requires (omega arith) c.loop-from.invariant)

pub loop-from-preserved : goal.loop-from-preserved
loop-from-preserved c = let v = c.loop-from.invariant in
    let h : c.loop-from.from < length c.args.waiting.now = omega arith in
    elim c.if-stays.branch [
      | then-stays w ↦ rw (w.waiting-is, w.sum-is, w.to-is, w.gone-is) (closing-keep c.requires h v _ (rw w.if-stays.true at c.lets_go-stays.ensures))
      | else-stays w ↦ rw (w.waiting-is, w.sum-is, w.to-is, w.gone-is, w.amount_of-sum.ensures) (closing-go c.requires h v _ (rw w.if-stays.false at c.lets_go-stays.ensures))
    ]

pub returns : goal.returns
returns c =
    let l = c.loop-from in
    let none : leaving (listed l.left.counts) (drop l.from c.args.waiting.now) ≡ [] = elim c.loop-from-test.branch [
      | else-loop-from-test w ↦ ap (leaving (listed l.left.counts)) (drop_of_length-le c.args.waiting.now {i = l.from} (omega arith))
      | then-loop-from-test+then-is_used_up w ↦ w.is_used_up.ensures w.if-is_used_up.true (drop l.from c.args.waiting.now)
    ] in
    record { pays_after = closing_end l.invariant none c.close_gap.new.s c.close_gap.ensures; value = closing-sum l.invariant none }
