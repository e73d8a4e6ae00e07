use Rattle.std.proofs.Common.{◌≡◌, ◌∙◌, sym, pos, true, ◌*◌, ◌%◌, ◌^◌, get_or, arith, rules}
use lib.Bits.{or_lt}
use mir.Syntax.{w64}
use mir.Val.{SFits}
use Rattle.rule.proofs.Ints.{plain}
use Rattle.finder.specs.Finder.{Short}
use Rattle.finder.proofs.Off.{height-off, off-ready}
use Rattle.finder.proofs.Steps.{step-off}
use Rattle.finder.proofs.Rounds.{ready_on}
use Rattle.finder.proofs.Search.step.Goals as goal
use Rattle.finder.proofs.Search.step.Goals.{Then-is_short}

short : (c : Then-is_short) → Short c.loop-m.positions c.args.self.now.lines.now c.loop-m.m ≡ true
short c =
    let f : SFits w64 (get_or c.loop-m.positions c.loop-m.m (pos 0)) = search rules in
    let g : SFits w64 (get_or c.args.self.now.lines.now c.loop-m.m (pos 0)) = search rules in
    sym (simp plain at c.is_short.ensures) ∙ c.if-is_short.true

pub take_off-payee-requires : goal.take_off-payee-requires
take_off-payee-requires c =
    let g = c.loop-m.invariant in
    off-ready (ready_on c.requires.ready g.ranges g.keeps) c.args.self.now.linked (omega arith) (short (goal.at.take_off-payee-requires c).Then-is_short)

pub loop-m-smaller-then-is_short : goal.loop-m-smaller-then-is_short
loop-m-smaller-then-is_short c =
    let g = c.loop-m.invariant in
    omega (arith, height-off g.ranges (omega arith) c.take_off-payee.ensures, or_lt 64 c.loop-m.due (1 * 2 ^ c.take_off-payee.result % 2 ^ 64))

pub loop-m-preserved-then-is_short : goal.loop-m-preserved-then-is_short
loop-m-preserved-then-is_short c =
    step-off c.loop-m.invariant (omega arith) (omega arith) (short (goal.at.loop-m-preserved-then-is_short c).Then-is_short) c.take_off-payee.ensures
