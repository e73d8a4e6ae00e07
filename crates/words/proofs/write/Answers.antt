use Rattle.std.proofs.Common.{◌≡◌, ◌+◌, ◌-◌, take, arith}
use Rattle.std.specs.Int.{bytes_low_first}
use Rattle.words.proofs.StdBytes.{put-bytes, lowest}
use Rattle.words.proofs.write.Goals as goal

pub returns : goal.returns
returns g c =
    let w = g.T.Word.WIDTH in
    let x = g.T.Word.number_of c.args.x in
    let long : c.args.at + w - c.args.at ≡ w = omega arith in
    let low : take w c.to_le_bytes-bytes.result ≡ bytes_low_first 0 w x = rw (c.to_le_bytes-bytes.ensures, c.to_number.ensures.0) (lowest w 8 0 x g.met.T.Word.widths.1) in
    rw (c.copy_from_slice.ensures.after, c.WIDTH.ensures, c.WIDTH-2.ensures, long, low) (put-bytes w c.args.s.now c.args.at x c.requires)
