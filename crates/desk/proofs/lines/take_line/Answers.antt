-- `desk::lines::take_line` meets its contract: no loop.
use mathlib.Core.Path.{refl}
use Prim.Native.Nat.{◌+◌}
use native.Mathlib.Omega.{arith}
use Rattle.dayfile.specs.Reading.{meant}
use Rattle.tables.specs.Layout.{Tables, tables}
use Rattle.desk.proofs.Steps.{did-kept}
use Rattle.desk.proofs.lines.take_line.Goals as goal

pub tell-used-requires : goal.tell-used-requires
tell-used-requires c = let t : Tables = tables c.args.accounts.now c.args.counters.now c.args.pays.now in
    let a = c.answer-d in
    (c.requires.3, (did-kept (c.args.s.lines + 1) c.args.s.stage t (meant c.args.e c.args.counts.now) a.result (tables a.new.accounts a.new.counters a.new.pays) (omega arith) (λ i. omega (arith, c.slice_known-1.given i)) c.requires.0.stands a.ensures).ranges)

pub returns-clause-fit : goal.returns-clause-fit
returns-clause-fit c = let t : Tables = tables c.args.accounts.now c.args.counters.now c.args.pays.now in
    let a = c.answer-d in
    let k = did-kept (c.args.s.lines + 1) c.args.s.stage t (meant c.args.e c.args.counts.now) a.result (tables a.new.accounts a.new.counters a.new.pays) (omega arith) (λ i. omega (arith, c.slice_known-1.given i)) c.requires.0.stands a.ensures in
    let p = c.tell-used in rw c.between.ensures (record { few = omega arith; room = p.ensures.1; held = omega arith; stands = k.stands }, refl, p.ensures.2)
