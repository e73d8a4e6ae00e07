-- The test of lent tables finds what document 01's list says: tables that pass hold each part of it, and tables that hold it pass. That one
-- balance is at most the highest follows from the sum of all and from the lines.
use mathlib.Core.Path.{◌≡◌}
use mathlib.Core.Bool.{true, not, cond, ◌&&◌}
use mathlib.Core.List.{List}
use Prim.Native.Nat.{ℕ, ◌+◌, ◌≤◌, ◌<◌}
use native.Mathlib.Omega.{arith}
use native.Mathlib.Decide.{dec_lt}
use lib.Dec.{eqb, leb, ltb}
use lib.IntN.{ℤ, pos, ◌+ℤ◌}
use lib.Signed.{le_z}
use lib.ListN.{length, get_or}
use borrow.Author.Tests.{lt-ltb, le-ltb, le-leb, eq-eqb, ne_eqb, ltb-true, leb-true, eqb-true, eqb-false, not-true}
use Rattle.rule.proofs.Ints.{true-le_z}
use Rattle.rule.specs.Payment.{payer_of, payee_of, amount_of, flags_of}
use Rattle.rule.specs.Table.{queue_of}
use Rattle.tables.specs.Sizes.{members, places, table, most, highest, most_amount, most_line}
use Rattle.tables.specs.Layout.{Tables, members_in, waiting_in, count_of, waiting_of, last_of, settled_of, balance_of, line_of, money_of, words_of}
use Rattle.tables.specs.Layout.{spare_accounts, spare_accounts_at, spare_counters, spare_counters_at, spare_singles, spare_singles_at}
use Rattle.tables.specs.Holds.{Holder, Payment, Counters, Accounts, Places, Numbers, Holds}
use Rattle.tables.specs.State.{every, is_zero, holder_ok, account_at, spare_at, accounts_ok, zero_at, counters_ok, word_ok, place_at, places_ok, queue_at, queues_ok, sized, is_state}
use Rattle.tables.proofs.Tests.{and_both, and-of, le-true, true-le, zero-true, true-zero}
use Rattle.tables.proofs.Every.{every-at, every_of}
use Rattle.tables.proofs.Balances.{accounts-near}

-- ---- a state holds the list

-- a balance and a line in order are a member's
pub holder-is : (b l : ℤ) → holder_ok b l ≡ true → Holder b l
holder-is b l e =
    let e1 = and_both (le_z (pos 0) l) _ e in
    let e2 = and_both (le_z l (pos most_line)) _ e1.1 in
    let e3 = and_both (le_z b (pos highest)) (le_z (pos 0) (b +ℤ l)) e2.1 in
    record { line = le-true (pos 0) l e1.0; small = le-true l (pos most_line) e2.0; cover = le-true (pos 0) (b +ℤ l) e3.1 }

payment-is : (n w : ℕ) → word_ok n w ≡ true → Payment n w
payment-is n w e =
    let e1 = and_both (ltb (payer_of w) n) _ e in
    let e2 = and_both (ltb (payee_of w) n) _ e1.1 in
    let e3 = and_both (not (eqb (payer_of w) (payee_of w))) _ e2.1 in
    let e4 = and_both (eqb (flags_of w) 0) _ e3.1 in
    let e5 = and_both (leb 1 (amount_of w)) (leb (amount_of w) most_amount) e4.1 in
    record {
      payer = ltb-true (payer_of w) n e1.0;
      payee = ltb-true (payee_of w) n e2.0;
      other = eqb-false (payer_of w) (payee_of w) (not-true (eqb (payer_of w) (payee_of w)) e3.0);
      plain = eqb-true (flags_of w) 0 e4.0;
      some = leb-true 1 (amount_of w) e5.0;
      small = leb-true (amount_of w) most_amount e5.1;
    }

pub counters-are : (c : List ℕ) → leb table (length c) ≡ true → counters_ok c ≡ true → Counters c
unfolding counters_ok
counters-are c l e =
    let e1 = and_both (leb 1 (count_of c)) _ e in
    let e2 = and_both (leb (count_of c) members) _ e1.1 in
    let e3 = and_both (leb (waiting_of c) places) _ e2.1 in
    let e4 = and_both (every (zero_at c spare_singles_at) spare_singles) (every (zero_at c spare_counters_at) spare_counters) e3.1 in
    record {
      broad = leb-true table (length c) l;
      one = leb-true 1 (count_of c) e1.0;
      few = leb-true (count_of c) members e2.0;
      room = leb-true (waiting_of c) places e3.0;
      spare = λ j h. eqb-true (get_or c (spare_singles_at + j) 0) 0 (every-at (zero_at c spare_singles_at) spare_singles j e4.0 h);
      later = λ j h. eqb-true (get_or c (spare_counters_at + j) 0) 0 (every-at (zero_at c spare_counters_at) spare_counters j e4.1 h);
    }

-- for `is_state`, before it looks at queues
pub ruleset counters_are = (counters-are, le-leb)

accounts-are : (n : ℕ) (a : List ℤ) → n ≤ members → leb table (length a) ≡ true → accounts_ok n a ≡ true → Accounts n a
unfolding accounts_ok
accounts-are n a few l e =
    let a1 = and_both (every (account_at n a) members) _ e in
    let a2 = and_both (every (spare_at a) spare_accounts) (le_z (money_of a) (pos most)) a1.1 in
    record {
      long = leb-true table (length a) l;
      holders = λ i h. holder-is (balance_of a i) (line_of a i) (rw (lt-ltb i n h) at (every-at (account_at n a) members i a1.0 (omega arith)));
      sum = le-true (money_of a) (pos most) a2.1;
      no_balance = λ i l h. zero-true (balance_of a i) (unused i (rw (le-ltb i n l) at (every-at (account_at n a) members i a1.0 h))).0;
      no_line = λ i l h. zero-true (line_of a i) (unused i (rw (le-ltb i n l) at (every-at (account_at n a) members i a1.0 h))).1;
      spare = λ j h. zero-true (get_or a (spare_accounts_at + j) (pos 0)) (every-at (spare_at a) spare_accounts j a2.0 h);
    }
  where
    unused : (i : ℕ) → (is_zero (balance_of a i) && is_zero (line_of a i)) ≡ true → (is_zero (balance_of a i) ≡ true) × (is_zero (line_of a i) ≡ true)
    unused i = and_both (is_zero (balance_of a i)) (is_zero (line_of a i))

places-are : (n w : ℕ) (p : List ℕ) → w ≤ places → leb places (length p) ≡ true → places_ok n w p ≡ true → Places n w p
unfolding places_ok
places-are n w p room l e = record {
  deep = leb-true places (length p) l;
  words = λ j h. payment-is n (get_or p j 0) (rw (lt-ltb j w h) at (every-at (place_at n w p) places j e (omega arith)));
  no_payment = λ j l h. eqb-true (get_or p j 0) 0 (rw (le-ltb j w l) at (every-at (place_at n w p) places j e h));
}

numbers-are : (c p : List ℕ) → queues_ok c p ≡ true → Numbers c p
unfolding queues_ok
numbers-are c p e = record {
  each = λ i h. eqb-true (settled_of c i + length (queue_of i (words_of c p))) (last_of c i) (both i (every-at (queue_at c p) members i e h)).0;
  no_number = λ i l h. eqb-true (last_of c i) 0 (rw (le-ltb i (count_of c) l) at (both i (every-at (queue_at c p) members i e h)).1);
}
  where
    both : (i : ℕ) → queue_at c p i ≡ true → (eqb (settled_of c i + length (queue_of i (words_of c p))) (last_of c i) ≡ true) × (cond (ltb i (count_of c)) true (eqb (last_of c i) 0) ≡ true)
    both i = and_both (eqb (settled_of c i + length (queue_of i (words_of c p))) (last_of c i)) (cond (ltb i (count_of c)) true (eqb (last_of c i) 0))

-- lent tables that pass the test hold document 01's list
pub state-holds : {T : Tables} → is_state T ≡ true → Holds T
unfolding is_state
state-holds {T} e =
    let e1 = and_both (sized T.accounts T.counters T.pays) _ e in
    let z1 = and_both (leb table (length T.accounts)) _ e1.0 in
    let z2 = and_both (leb table (length T.counters)) (leb places (length T.pays)) z1.1 in
    let e2 = and_both (counters_ok T.counters) _ e1.1 in
    let e3 = and_both (accounts_ok (members_in T) T.accounts) _ e2.1 in
    let e4 = and_both (places_ok (members_in T) (waiting_in T) T.pays) (queues_ok T.counters T.pays) e3.1 in
    let k = counters-are T.counters z2.0 e2.0 in
    record {
      counters = k;
      accounts = accounts-are (members_in T) T.accounts k.few z1.0 e3.0;
      places = places-are (members_in T) (waiting_in T) T.pays k.room z2.1 e4.0;
      numbers = numbers-are T.counters T.pays e4.1;
    }

-- ---- what holds the list is a state

holder-of : (b l : ℤ) → le_z b (pos highest) ≡ true → Holder b l → holder_ok b l ≡ true
holder-of b l e h = and-of (true-le (pos 0) l h.line) (and-of (true-le l (pos most_line) h.small) (and-of e (true-le (pos 0) (b +ℤ l) h.cover)))

payment-of : (n w : ℕ) → Payment n w → word_ok n w ≡ true
payment-of n w h = rw (
  lt-ltb (payer_of w) n h.payer,
  lt-ltb (payee_of w) n h.payee,
  ne_eqb (payer_of w) (payee_of w) h.other,
  eq-eqb (flags_of w) 0 h.plain,
  le-leb 1 (amount_of w) h.some,
  le-leb (amount_of w) most_amount h.small,
)

-- each list in order passes its test
module _ {n : ℕ} {a : List ℤ} (h : Accounts n a) where
  high : (i : ℕ) → i < members → le_z (balance_of a i) (pos highest) ≡ true
  high i q = let n = accounts-near h i q in true-le_z (balance_of a i) (pos highest) (omega arith)

  account : (i : ℕ) → i < members → account_at n a i ≡ true
  account i q = elim (dec_lt i n) [
    | yes l ↦ rw (lt-ltb i n l) (holder-of (balance_of a i) (line_of a i) (high i q) (h.holders i l))
    | no l ↦ rw (le-ltb i n (omega arith)) (and-of (true-zero (h.no_balance i (omega arith) q)) (true-zero (h.no_line i (omega arith) q)))
  ]

  accounts-of : accounts_ok n a ≡ true
  unfolding accounts_ok
  accounts-of =
      let s = every_of (spare_at a) spare_accounts (λ k q. true-zero (h.spare k q)) in
      and-of (every_of (account_at n a) members account) (and-of s (true-le (money_of a) (pos most) h.sum))

places_of : {n w : ℕ} {p : List ℕ} → Places n w p → places_ok n w p ≡ true
unfolding places_ok
places_of {n} {w} {p} h = every_of (place_at n w p) places (λ k q. elim (dec_lt k w) [
  | yes l ↦ rw (lt-ltb k w l) (payment-of n (get_or p k 0) (h.words k l))
  | no l ↦ rw (le-ltb k w (omega arith)) (eq-eqb (get_or p k 0) 0 (h.no_payment k (omega arith) q))
])

numbers_of : {c p : List ℕ} → Numbers c p → queues_ok c p ≡ true
unfolding queues_ok
numbers_of {c} {p} h = every_of (queue_at c p) members (λ i q. and-of (eq-eqb (settled_of c i + length (queue_of i (words_of c p))) (last_of c i) (h.each i q)) (elim (dec_lt i (count_of c)) [
  | yes l ↦ rw (lt-ltb i (count_of c) l)
  | no l ↦ rw (le-ltb i (count_of c) (omega arith)) (eq-eqb (last_of c i) 0 (h.no_number i (omega arith) q))
]))

counters-of : {c : List ℕ} → Counters c → counters_ok c ≡ true
unfolding counters_ok
counters-of {c} h = rw (
  le-leb 1 (count_of c) h.one,
  le-leb (count_of c) members h.few,
  le-leb (waiting_of c) places h.room,
  every_of (zero_at c spare_singles_at) spare_singles (λ k q. eq-eqb (get_or c (spare_singles_at + k) 0) 0 (h.spare k q)),
  every_of (zero_at c spare_counters_at) spare_counters (λ k q. eq-eqb (get_or c (spare_counters_at + k) 0) 0 (h.later k q)),
)

-- lent tables that hold document 01's list pass the test
pub holds-state : {T : Tables} → Holds T → is_state T ≡ true
unfolding is_state
holds-state {T} h =
    let a = le-leb table (length T.accounts) h.accounts.long in
    let c = le-leb table (length T.counters) h.counters.broad in
    and-of (and-of a (and-of c (le-leb places (length T.pays) h.places.deep)))
    (and-of (counters-of h.counters) (and-of (accounts-of h.accounts) (and-of (places_of h.places) (numbers_of h.numbers))))
