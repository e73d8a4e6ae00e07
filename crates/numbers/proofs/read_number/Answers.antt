use Rattle.std.proofs.Common.{arith}
use Rattle.std.proofs.lemmas.Grind.{common_steps}
use Rattle.numbers.proofs.Reading.{read_step, read_other, read-end, grows, fits}
use Rattle.numbers.proofs.read_number.Goals as goal

pub returns-then-not-is_ascii_digit : goal.returns-then-not-is_ascii_digit
returns-then-not-is_ascii_digit c = grind (arith, common_steps, read_other)

pub overflow_mul-x : goal.overflow_mul-x
overflow_mul-x c = omega (arith, fits c.loop-b.x c.loop-b.b-index (omega arith) (omega arith))

pub overflow_add-x : goal.overflow_add-x
overflow_add-x c = omega (arith, fits c.loop-b.x c.loop-b.b-index (omega arith) (omega arith))

pub loop-b-preserved : goal.loop-b-preserved
loop-b-preserved c =
    let l = c.loop-b in
    (grows l.x l.b-index c.from.result l.invariant.0 (grind (arith, common_steps)), grind (arith, common_steps, read_step))

pub returns : goal.returns
returns c = grind (arith, common_steps, read-end)
