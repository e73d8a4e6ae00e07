-- `booking::head_of` meets its contract: the member pays one of the payments, and the first of those is its head.
use Rattle.std.proofs.Common.{◌≡◌, sym, ◌∙◌, arith, take, length, ◌*◌, ◌/◌}
use Rattle.booking.proofs.Heads.{head-found, head-at, block-behind, block-first, rest-found, rest-first}
use Rattle.booking.proofs.head_of.Goals as goal

pub returns-in-Some : goal.returns-in-Some
returns-in-Some c =
    let ws = take c.args.used c.args.pays.now in
    let e = rw (c.as_chunks.ensures.front) at (sym c.first_of.ensures ∙ c.in-Some.is) in
    head-at c.args.used c.args.seat _ c.args.pays.now c.requires.0
    (rest-first c.args.seat (c.loop-k.k * 16) ws c.loop-k.invariant c.in-Some.i (block-first c.args.seat 16 (length ws / 16) c.loop-k.k ws (omega arith) c.in-Some.i e))

pub loop-k-preserved : goal.loop-k-preserved
loop-k-preserved c =
    let ws = take c.args.used c.args.pays.now in
    let e = rw (c.as_chunks.ensures.front) at (sym c.first_of.ensures ∙ c.in_default.is) in
    block-behind c.args.seat 16 (length ws / 16) c.loop-k.k ws (omega arith) (omega arith) c.loop-k.invariant e

pub unwrap-requires : goal.unwrap-requires
unwrap-requires c =
    let ws = take c.args.used c.args.pays.now in
    let e : c.loop-k.k ≡ length ws / 16 = omega arith in
    rw (c.first_of-2.ensures, c.as_chunks.ensures.back, ← e)
    (rest-found c.args.seat (c.loop-k.k * 16) ws c.loop-k.invariant (head-found c.args.seat ws c.requires.1))

pub returns : goal.returns
returns c =
    let ws = take c.args.used c.args.pays.now in
    let e : c.loop-k.k ≡ length ws / 16 = omega arith in
    let f = rw (c.as_chunks.ensures.back, ← e) at (sym c.first_of-2.ensures ∙ c.unwrap.ensures) in
    rw (c.as_chunks.ensures.front_len, ← e)
    (head-at c.args.used c.args.seat _ c.args.pays.now c.requires.0 (rest-first c.args.seat (c.loop-k.k * 16) ws c.loop-k.invariant c.unwrap.result f))
