-- `sheet::put_line` meets its contract. What is written into the rest is written into the whole.
use native.Mathlib.Omega.{arith}
use Rattle.sheet.specs.Lines.{text_of}
use Rattle.sheet.proofs.Room.{rest_put, rest-room, wrote-within}
use Rattle.sheet.proofs.put_line.Goals as goal

pub overflow_add-result : goal.overflow_add-result
overflow_add-result c = omega (arith, c.lay_line-n.ensures.0, wrote-within c.args.s c.requires.1 c.args.out.now c.args.at c.requires.0, c.well_formed)

pub returns : goal.returns
returns c = let w = wrote-within c.args.s c.requires.1 c.args.out.now c.args.at c.requires.0 in
    let n = c.lay_line-n in
    (omega (arith, n.ensures.0), rest_put c.args.out.now c.args.at n.new.out (text_of c.args.s) w n.ensures.1)
