-- What stands where in the lists with a set booked.
use mathlib.Core.Path.{◌≡◌, ◌∙◌}
use mathlib.Core.Logic.{◌≢◌}
use Prim.Native.Nat.{ℕ, ◌+◌, ◌-◌, ◌≤◌, ◌<◌}
use native.Mathlib.Omega.{arith}
use lib.IntN.{pos}
use lib.ListN.{length, get_or, length-set, get_or-eq_default}
use lib.Seq.{get_or-set_same, get_or-set_other}
use Rattle.rule.specs.Lists.{fill_at}
use Rattle.rule.specs.Kernel.{Counts, sum}
use Rattle.rule.specs.House.{position}
use Rattle.rule.specs.Table.{staying}
use Rattle.rule.proofs.Lists.{fill-length, fill-at, fill-past, fill-at-length, before-fill, in-fill, past-fill}
use Rattle.tables.specs.Sizes.{members, places}
use Rattle.tables.specs.Layout.{Tables, members_in, waiting_in, words_in, house_in, settled_of, balance_of, settled_at, spare_counters_at}
use Rattle.tables.specs.Holds.{Holds}
use Rattle.booking.specs.Booking.{booked_in}

module _ {T : Tables} (h : Holds T) (z : Counts) where
  -- ---- accounts

  pub accounts-length : length (booked_in T z).accounts ≡ length T.accounts
  unfolding booked_in
  accounts-length = fill-length (position (members_in T) (house_in T) z) T.accounts members (omega (arith, h.accounts.long))

  -- each balance is where the set takes it,
  pub balance-booked : (i : ℕ) → i < members → balance_of (booked_in T z).accounts i ≡ position (members_in T) (house_in T) z i
  unfolding booked_in
  balance-booked i q = fill-at (position (members_in T) (house_in T) z) T.accounts members i (pos 0) q

  -- and each other account is as it was
  pub account-booked : (k : ℕ) → members ≤ k → get_or (booked_in T z).accounts k (pos 0) ≡ get_or T.accounts k (pos 0)
  unfolding booked_in
  account-booked k q = fill-past (position (members_in T) (house_in T) z) T.accounts members k (pos 0) q

  -- ---- counters

  fits : settled_at + members ≤ length T.counters
  fits = omega (arith, h.counters.broad)

  pub counters-length : length (booked_in T z).counters ≡ length T.counters
  unfolding booked_in
  counters-length = simp length-set (fill-at-length settled_at members (λ i. settled_of T.counters i + z i) T.counters fits)

  -- the waiting are fewer by the sum of the counts,
  pub waiting-set : waiting_in (booked_in T z) ≡ waiting_in T - sum members z
  unfolding booked_in
  waiting-set = get_or-set_same (fill_at settled_at members (λ i. settled_of T.counters i + z i) T.counters) 1 (waiting_in T - sum members z) 0
      (rw (fill-at-length settled_at members (λ i. settled_of T.counters i + z i) T.counters fits) (omega (arith, h.counters.broad)))

  other : (k : ℕ) → k ≢ 1 → get_or (booked_in T z).counters k 0 ≡ get_or (fill_at settled_at members (λ i. settled_of T.counters i + z i) T.counters) k 0
  unfolding booked_in
  other k ne = get_or-set_other (fill_at settled_at members (λ i. settled_of T.counters i + z i) T.counters) 1 k (waiting_in T - sum members z) 0 ne

  -- each member has its count settled,
  pub settled-booked : (i : ℕ) → i < members → settled_of (booked_in T z).counters i ≡ settled_of T.counters i + z i
  unfolding booked_in
  settled-booked i q =
      other (settled_at + i) (λ e. absurd (omega arith)) ∙ in-fill settled_at members (λ i. settled_of T.counters i + z i) T.counters fits i 0 q

  -- and each other counter is as it was
  pub counter-before : (k : ℕ) → k ≢ 1 → k < settled_at → get_or (booked_in T z).counters k 0 ≡ get_or T.counters k 0
  unfolding booked_in
  counter-before k ne q = other k ne ∙ before-fill settled_at members (λ i. settled_of T.counters i + z i) T.counters fits k 0 q

  pub counter-behind : (k : ℕ) → spare_counters_at ≤ k → get_or (booked_in T z).counters k 0 ≡ get_or T.counters k 0
  unfolding booked_in
  counter-behind k q = other k (λ e. absurd (omega arith)) ∙ past-fill settled_at members (λ i. settled_of T.counters i + z i) T.counters fits k 0 q

  -- ---- places

  pub places-length : length (booked_in T z).pays ≡ length T.pays
  unfolding booked_in
  places-length = fill-length (λ k. get_or (staying z (words_in T)) k 0) T.pays places h.places.deep

  -- the payments that stay, and 0 behind them
  pub place-booked : (k : ℕ) → k < places → get_or (booked_in T z).pays k 0 ≡ get_or (staying z (words_in T)) k 0
  unfolding booked_in
  place-booked k q = fill-at (λ k. get_or (staying z (words_in T)) k 0) T.pays places k 0 q

  pub place-cleared : (k : ℕ) → length (staying z (words_in T)) ≤ k → k < places → get_or (booked_in T z).pays k 0 ≡ 0
  unfolding booked_in
  place-cleared k l q = place-booked k q ∙ get_or-eq_default (staying z (words_in T)) 0 {n = k} l
