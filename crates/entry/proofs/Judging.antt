-- What an accepted deposit's numbers satisfy, and a submission's, follows from a judgement that found nothing.
use mathlib.Core.Path.{◌≡◌}
use mathlib.Core.Bool.{◌&&◌}
use mathlib.Core.Logic.{◌≢◌}
use Prim.Native.Nat.{ℕ, ◌+◌, ◌-◌, ◌≤◌, ◌<◌}
use lib.Dec.{eqb, leb}
use lib.IntN.{pos, ◌+ℤ◌}
use lib.Signed.{le_z, ◌≤ℤ◌}
use borrow.Author.Tests.{leb-true, leb-false, eqb-true, eqb-false, not-false}
use Rattle.tables.specs.Sizes.{places, most, last_number, most_amount}
use Rattle.tables.specs.Layout.{Tables, members_in, waiting_in, last_of, money_of}
use Rattle.tables.proofs.Tests.{and_both, le-true}
use Rattle.answers.specs.Codes.{first, is_member, is_amount}
use Rattle.std.specs.Prelude.{Ok}
use Rattle.answers.proofs.Judging.{first_fine, member-in, amount-in}
use Rattle.entry.specs.Deposit.{deposit_tests, deposit_act}
use Rattle.entry.specs.Submit.{is_next, submit_tests, submit_act}

-- ---- deposit

-- member m may be given x
pub record Deposits (T : Tables) (m x : ℕ) : Type 0 where
  pub one : 1 ≤ m
  pub within : m ≤ members_in T
  pub some : 1 ≤ x
  pub small : x ≤ most_amount
  pub sum : (money_of T.accounts +ℤ pos x) ≤ℤ pos most

-- tests that find nothing say so
pub deposit-fine : {T : Tables} {m x : ℕ} → first ((deposit_act m x).tests T) ≡ Ok tt → Deposits T m x
unfolding deposit_act
deposit-fine {T} {m} {x} e =
    let f = first_fine (deposit_tests T.accounts T.counters m x) e in
    let b = member-in T.counters m (not-false (is_member T.counters m) f.0) in
    let d = amount-in x (not-false (is_amount x) f.1.0) in
    let z = money_of T.accounts +ℤ pos x in
    record { one = b.0; within = b.1; some = d.0; small = d.1; sum = le-true z (pos most) (not-false (le_z z (pos most)) f.1.1.0) }

-- ---- submit

-- member m may give number n to a payment of x to q
pub record Submits (T : Tables) (m n q x : ℕ) : Type 0 where
  pub one : 1 ≤ m
  pub within : m ≤ members_in T
  pub to : 1 ≤ q
  pub known : q ≤ members_in T
  pub apart : m ≢ q
  pub some : 1 ≤ x
  pub small : x ≤ most_amount
  pub next : n ≡ last_of T.counters (m - 1) + 1
  pub fits : n ≤ last_number
  pub room : waiting_in T < places

-- tests that find nothing say so
pub submit-fine : {T : Tables} {m n q x : ℕ} → first ((submit_act m n q x).tests T) ≡ Ok tt → Submits T m n q x
unfolding submit_act
submit-fine {T} {m} {n} {q} {x} e =
    let f = first_fine (submit_tests T.counters m n q x) e in
    let g = and_both (is_member T.counters m) (is_member T.counters q) (not-false (is_member T.counters m && is_member T.counters q) f.0) in
    let b = member-in T.counters m g.0 in
    let d = member-in T.counters q g.1 in
    let s = amount-in x (not-false (is_amount x) f.1.1.0) in
    let l = and_both (eqb n (last_of T.counters (m - 1) + 1)) (leb n last_number) (not-false (is_next T.counters m n) f.1.1.1.0) in
    record {
      one = b.0;
      within = b.1;
      to = d.0;
      known = d.1;
      apart = eqb-false m q f.1.0;
      some = s.0;
      small = s.1;
      next = eqb-true n (last_of T.counters (m - 1) + 1) l.0;
      fits = leb-true n last_number l.1;
      room = leb-false places (waiting_in T) f.1.1.1.1.0;
    }
