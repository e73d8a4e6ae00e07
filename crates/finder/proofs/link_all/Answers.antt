use Rattle.std.proofs.Common.{◌<◌, length, arith}
use Rattle.finder.proofs.Links.{all-in-next, linked-next}
use Rattle.finder.proofs.link_all.Goals as goal

pub loop-m-preserved : goal.loop-m-preserved
loop-m-preserved c =
    let e = c.payer_of-payer.ensures in
    let l = c.loop-m in
    let h = c.loop-m-test.true in
    let k : l.m < length l.befores = omega arith in
    record { all_in = rw e (all-in-next h l.invariant.all_in); linked = rw e (linked-next h l.invariant.all_in k l.invariant.linked) }
