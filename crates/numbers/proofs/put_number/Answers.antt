use Rattle.std.proofs.Common.{arith, sym, ◌∙◌}
use lib.ListN.{length-set}
use Rattle.numbers.specs.Numbers.{width_of}
use Rattle.numbers.proofs.Writing.{put_step, put-end, length_digits}
use Rattle.numbers.proofs.put_number.Goals as goal

pub overflow_add-out-in-loop-k : goal.overflow_add-out-in-loop-k
overflow_add-out-in-loop-k c = omega (arith, length_digits (width_of c.args.x) c.args.x)

pub bounds-out-at : goal.bounds-out-at
bounds-out-at c = omega (arith, length_digits (width_of c.args.x) c.args.x)

pub loop-k-preserved : goal.loop-k-preserved
loop-k-preserved c = let l = c.loop-k in
    (simp length-set l.invariant.0, put_step l.out c.args.at l.k l.y (omega arith) ∙ l.invariant.1)

pub overflow_add-result : goal.overflow_add-result
overflow_add-result c = omega (arith, length_digits (width_of c.args.x) c.args.x)

pub returns : goal.returns
returns c = let l = c.loop-k in (
  omega (arith, length_digits (width_of c.args.x) c.args.x),
  sym (put-end l.out c.args.at l.k l.y (omega arith)) ∙ l.invariant.1,
)
