use borrow.Author.Tests.{lt-ltb, le-ltb}
use Prim.Native.Nat.{◌-◌}
use native.Mathlib.Omega.{arith}
use Rattle.sets.proofs.Highest.{read-start, read-room, read-in, read_out}
use Rattle.tables.specs.Layout.{last_of, settled_of}
use Rattle.resolving.proofs.still_waiting.Goals as goal

pub loop-i-init : goal.loop-i-init
loop-i-init c = read-start

pub overflow_mul-set : goal.overflow_mul-set
overflow_mul-set c = omega (arith, read-room c.loop-i.invariant (omega arith) (omega arith))

pub overflow_add-set : goal.overflow_add-set
overflow_add-set c = omega (arith, read-room c.loop-i.invariant (omega arith) (omega arith))

pub loop-i-preserved-then-counters-i : goal.loop-i-preserved-then-counters-i
loop-i-preserved-then-counters-i c = let a = c.args.counters.now in
    let i = c.loop-i.i - 1 in
    read-in c.loop-i.invariant (omega arith) (lt-ltb (settled_of a i) (last_of a i) c.if-counters-i.true)

pub loop-i-preserved : goal.loop-i-preserved
loop-i-preserved c = let a = c.args.counters.now in
    let i = c.loop-i.i - 1 in
    read_out c.loop-i.invariant (omega arith) (le-ltb (settled_of a i) (last_of a i) c.if-counters-i.false)
