-- `numbers::read_signed` meets its contract. The field behind the sign, or the whole field, is read as a number.
use Rattle.std.proofs.Common.{arith, sym, ◌∙◌, ◌-◌, length, take, drop}
use Rattle.std.proofs.lemmas.Int.{ints}
use Rattle.numbers.proofs.Signs.{value_lt, minus_read, plus_read}
use Rattle.numbers.proofs.read_signed.Goals as goal

pub overflow_cast-result : goal.overflow_cast-result
overflow_cast-result c =
    let f = c.args.field.now in
    let h = value_lt (take (length f - 1) (drop 1 f)) c.in_ok-x-in-45.x (sym c.read_number.ensures ∙ c.in_ok-x-in-45.was) in
    omega (arith, ints)

pub overflow_sub-result : goal.overflow_sub-result
overflow_sub-result c =
    let f = c.args.field.now in
    let h = value_lt (take (length f - 1) (drop 1 f)) c.in_ok-x-in-45.x (sym c.read_number.ensures ∙ c.in_ok-x-in-45.was) in
    omega (arith, ints)

pub overflow_cast-result-in_default : goal.overflow_cast-result-in_default
overflow_cast-result-in_default c =
    let r = c.in_ok-read_number-in_default in
    let h = value_lt c.args.field.now r.field-0 (sym c.read_number-in_default.ensures ∙ r.was) in
    omega (arith, ints)

pub returns-in_default-2 : goal.returns-in_default-2
returns-in_default-2 c =
    minus_read c.args.field.now c.in_ok-x-in-45.x (omega arith) (omega arith) (sym c.read_number.ensures ∙ c.in_ok-x-in-45.was)

pub returns-in_ok-read_number-in_default : goal.returns-in_ok-read_number-in_default
returns-in_ok-read_number-in_default c =
    let r = c.in_ok-read_number-in_default in
    plus_read c.args.field.now r.field-0 (omega arith) (sym c.read_number-in_default.ensures ∙ r.was)
