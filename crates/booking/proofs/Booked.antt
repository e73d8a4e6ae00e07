-- What a state and counts within its queues give: the steps of a booking can be taken, and lead to the booked lists.
use mathlib.Core.Path.{◌≡◌, sym, ap, ◌∙◌, subst}
use mathlib.Core.List.{List, ◌++◌}
use Prim.Native.Nat.{ℕ, zero, suc, ◌+◌, ◌≤◌, ◌<◌}
use native.Mathlib.Decide.{ℕ_discrete}
use native.Mathlib.Omega.{arith}
use lib.IntN.{ℤ, pos}
use lib.ListN.{length, get_or, drop, length-take}
use lib.Seq.{length-take-le}
use Rattle.rule.specs.Kernel.{Counts, sum}
use Rattle.rule.specs.Payment.{amount_of}
use Rattle.rule.specs.Queue.{total}
use Rattle.rule.specs.House.{waits, sent, position}
use Rattle.rule.specs.Table.{leaving, staying}
use Rattle.rule.proofs.Sums.{sum_mono}
use Rattle.rule.proofs.Table.{all-leaving}
use Rattle.tables.specs.Sizes.{members, places, last_number}
use Rattle.tables.specs.Layout.{Tables, members_in, waiting_in, words_in, house_in, lasts_at}
use Rattle.tables.specs.Holds.{Holds}
use Rattle.tables.proofs.Houses.{holds-payers, no-queue, waiting-sum}
use Rattle.booking.specs.Booking.{listed, booked_in, Counted, Weighed}
use Rattle.booking.specs.Steps.{closed_up, Countable}
use Rattle.booking.proofs.Filling.{front-fill}
use Rattle.booking.proofs.Staying.{staying-short, closed-fill}

-- a sum goes no further than its last count that is not 0
pub sum-rest : (m n : ℕ) (z : Counts) → n ≤ m → ((i : ℕ) → n ≤ i → i < m → z i ≡ 0) → sum m z ≡ sum n z
sum-rest zero n z h f = let e : n ≡ 0 = omega arith in rw e
sum-rest (suc m) n z h f = elim (ℕ_discrete n (suc m)) [
  | yes e ↦ rw e
  | no e ↦ omega (arith, sum-rest m n z (omega arith) (λ i k l. f i k (omega arith)), f m (omega arith) (omega arith))
]

module _ {T : Tables} (h : Holds T) where
  -- those that stay fill the places,
  pub closed-booked : (z : Counts) → closed_up (length (words_in T)) (staying z (words_in T)) ++ drop (waiting_in T) T.pays ≡ (booked_in T z).pays
  unfolding booked_in
  closed-booked z =
      ap (λ k. closed_up k (staying z (words_in T)) ++ drop (waiting_in T) T.pays) (length-take-le (waiting_in T) T.pays (omega (arith, h.counters.room, h.places.deep)))
      ∙ closed-fill (waiting_in T) (staying z (words_in T)) T.pays (omega (arith, staying-short (words_in T) z, length-take (waiting_in T) T.pays))
      (omega arith) places h.counters.room h.places.deep h.places.no_payment

  -- and the amounts of those that leave are what the members send
  pub sum-sent : (z : Counts) → total amount_of (leaving z (words_in T)) ≡ sum (members_in T) (sent (house_in T) z)
  unfolding sent
  sum-sent z = sym (all-leaving (members_in T) amount_of (words_in T) z (holds-payers h))

  waiting-all : sum members (waits (house_in T)) ≡ waiting_in T
  waiting-all = sum-rest members (members_in T) (waits (house_in T)) h.counters.few (λ i l q. ap length (no-queue h i l)) ∙ waiting-sum h

-- counters of a state can take counts within its queues
pub countable : {T : Tables} {counts : List ℕ} → Counted T counts → ((i : ℕ) → get_or T.counters i 0 ≤ last_number) → Countable T.counters counts
countable {T} {counts} g fits = let h = g.holds in record {
  broad = h.counters.broad;
  members = g.members;
  settles = λ i q. omega (arith, g.within i q, h.numbers.each i q, fits (lasts_at + i));
  waits = subst (λ k. sum members (listed counts) ≤ k) (waiting-all h) (sum_mono members (listed counts) (waits (house_in T)) g.within);
}

-- the positions, in the place of the balances, are the booked ones
pub positions-booked : {T : Tables} {counts : List ℕ} {xs : List ℤ} → Weighed T counts xs → xs ++ drop members T.accounts ≡ (booked_in T (listed counts)).accounts
unfolding booked_in
positions-booked {T} {counts} {xs} w = front-fill (pos 0) members (position (members_in T) (house_in T) (listed counts)) xs T.accounts w.members w.weighs
