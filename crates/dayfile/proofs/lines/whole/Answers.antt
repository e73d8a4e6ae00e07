-- `dayfile::lines::whole` meets its contract: a line that ends in the chunk behind at most 400 bytes is eaten as it stands there.
use Rattle.std.proofs.Common.{◌+◌, ◌-◌, ◌<◌, length, take, drop, arith}
use lib.ListN.{length-drop}
use lib.Seq.{length-take-le}
use Rattle.dayfile.proofs.Eating.{first-end, eat-whole, nothing-held}
use Rattle.dayfile.proofs.lines.whole.Goals as goal

pub returns : goal.returns
returns c =
    let a = c.args in
    let f = c.in_ok-n.ensures in
    let s = take (length a.chunk.now - a.from) (drop a.from a.chunk.now) in
    let q : a.from + c.in_ok-n.n < length a.chunk.now = omega (arith, f.0.high, length-take-le (length a.chunk.now - a.from) (drop a.from a.chunk.now), length-drop a.from a.chunk.now) in (
      q,
      record {
        start = omega arith;
        short = omega arith;
        none_held = nothing-held a.c (omega arith) c.if-c.false;
        eaten = eat-whole a.chunk.now a.from (first-end s f) q c.if-n-gt-MOST_BYTES.false;
      },
    )
