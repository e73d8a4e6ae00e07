-- `settling::release` meets its contract: no loop; the head is found, and booked if balance + line reach its amount.
use native.Mathlib.Omega.{arith}
use Prim.Native.Nat.{◌-◌}
use Rattle.settling.proofs.Settles.{settled-last, release_stranger, seat, cover-fits, release-nothing, has_head, head_small, release-short, release-done}
use Rattle.settling.proofs.release.Goals as goal

pub returns-then-not-is_member : goal.returns-then-not-is_member
returns-then-not-is_member c = release_stranger c.requires c.args.member (cc)

pub waiting_of-requires : goal.waiting_of-requires
waiting_of-requires c = let s = seat c.requires c.args.member (cc) in (c.requires.counters.broad, s, settled-last c.requires (c.args.member - 1) s)

pub returns-then-waiting_of-eq0 : goal.returns-then-waiting_of-eq0
returns-then-waiting_of-eq0 c = release-nothing c.requires c.args.member (cc) (cc)

pub head_of-at-requires : goal.head_of-at-requires
head_of-at-requires c =
    let some = rw c.waiting_of.ensures at c.if-waiting_of-eq0.false in
    (omega (arith, c.requires.places.deep, c.requires.counters.room), has_head c.requires c.args.member (cc) some)

pub reaches-requires : goal.reaches-requires
reaches-requires c =
    let some = rw c.waiting_of.ensures at c.if-waiting_of-eq0.false in
    let small = head_small c.requires c.args.member (cc) some c.head_of-at.ensures c.amount_of-amount.ensures in
    (c.requires.accounts.long, seat c.requires c.args.member (cc), cover-fits c.requires c.args.member (cc), small)

pub returns-then-not-reaches : goal.returns-then-not-reaches
returns-then-not-reaches c =
    let some = rw c.waiting_of.ensures at c.if-waiting_of-eq0.false in
    release-short c.requires c.args.member (cc) some c.head_of-at.ensures c.amount_of-amount.ensures (cc)

pub returns : goal.returns
returns c =
    let some = rw c.waiting_of.ensures at c.if-waiting_of-eq0.false in
    release-done c.requires c.args.member (cc) some c.head_of-at.ensures c.amount_of-amount.ensures (cc) c.head_number-number.ensures c.book_head.ensures
