-- A group of zero counts is accepted and books nothing: from what a booking of none leaves in each list.
use mathlib.Core.Path.{◌≡◌, refl, sym, ap, ◌∙◌, subst}
use mathlib.Core.Bool.{true}
use mathlib.Core.List.{List, [], ◌∷◌}
use Prim.Native.Nat.{ℕ, ◌+◌, ◌-◌, ◌≤◌, ◌<◌}
use native.Mathlib.Decide.{ℕ_discrete, dec_lt}
use native.Mathlib.Omega.{arith}
use lib.IntN.{pos, ◌+ℤ◌, ◌-ℤ◌}
use lib.ListN.{length, get_or, replicate, length-replicate, get_or-eq_default}
use lib.Seq.{ext_get_or, get_or-take, length-take-le}
use borrow.Author.Tests.{eq-eqb, le-leb}
use Rattle.rule.specs.Kernel.{Counts, none, Under}
use Rattle.rule.specs.Queue.{worth}
use Rattle.rule.specs.House.{waits, sent, received, position}
use Rattle.rule.specs.Table.{staying}
use Rattle.rule.proofs.Ints.{plus, minus, eq_of}
use Rattle.rule.proofs.Sums.{sum-zero}
use Rattle.rule.proofs.Lists.{fill-past}
use Rattle.rule.proofs.Cover.{none_allowed}
use Rattle.tables.specs.Sizes.{members, places}
use Rattle.tables.specs.Layout.{Tables, members_in, waiting_in, words_in, house_in, balance_of, settled_of, waiting_at, settled_at, spare_counters_at}
use Rattle.tables.specs.Holds.{Holds}
use Rattle.tables.proofs.Same.{tables-same}
use Rattle.tables.proofs.States.{holds-state}
use Rattle.tables.proofs.Houses.{holds-sound}
use Rattle.tables.proofs.Every.{every_of}
use Rattle.tables.proofs.Tests.{and-of}
use Rattle.booking.specs.Booking.{listed, booked_in}
use Rattle.booking.proofs.Reading.{accounts-length, balance-booked, account-booked, places-length, place-booked}
use Rattle.booking.proofs.Reading.{counters-length, waiting-set, settled-booked, counter-before, counter-behind}
use Rattle.settling.specs.Group.{count_at, is_counts, is_covered, book_act, group_act}
use Rattle.settling.proofs.Counts.{listed-zeros}
use Rattle.settling.proofs.Settles.{covered-allowed, group-tests}
use Rattle.answers.specs.Codes.{first}
use Rattle.answers.specs.Outcome.{outcome, called}
use Rattle.std.specs.Prelude.{Ok}
use Rattle.answers.proofs.Outcomes.{called-held, held-fine}

all_stay : (ws : List ℕ) → staying none ws ≡ ws
all_stay [] = refl
all_stay (w ∷ ws) = ap (λ l. w ∷ l) (all_stay ws)

module _ {T : Tables} (h : Holds T) where
  -- ---- what a booking of none leaves

  stays_put : (i : ℕ) → position (members_in T) (house_in T) none i ≡ balance_of T.accounts i
  unfolding sent received worth
  stays_put i =
      let b = balance_of T.accounts i in
      rw (sum-zero (members_in T)) (eq_of (b -ℤ pos 0 +ℤ pos 0) b (omega (arith, minus b (pos 0), plus (b -ℤ pos 0) (pos 0))))

  accounts-stay : (booked_in T none).accounts ≡ T.accounts
  accounts-stay = ext_get_or (pos 0) (booked_in T none).accounts T.accounts (accounts-length h none) (λ k q. elim (dec_lt k members) [
    | yes l ↦ balance-booked h none k l ∙ stays_put k
    | no l ↦ account-booked h none k (omega arith)
  ])

  settled-stays : (k : ℕ) → settled_at ≤ k → k < spare_counters_at → get_or (booked_in T none).counters k 0 ≡ get_or T.counters k 0
  settled-stays k l q =
      let j = k - settled_at in
      let e : settled_at + j ≡ k = omega arith in
      let f : settled_of (booked_in T none).counters j ≡ settled_of T.counters j = omega (arith, settled-booked h none j (omega arith)) in
      subst (λ m. get_or (booked_in T none).counters m 0 ≡ get_or T.counters m 0) e f

  counter-stays : (k : ℕ) → get_or (booked_in T none).counters k 0 ≡ get_or T.counters k 0
  counter-stays k = elim (ℕ_discrete k waiting_at) [
    | yes e ↦ rw e (waiting-set h none ∙ omega (arith, sum-zero members))
    | no e ↦ elim (dec_lt k settled_at) [
      | yes l ↦ counter-before h none k e l
      | no l ↦ elim (dec_lt k spare_counters_at) [
        | yes m ↦ settled-stays k (omega arith) m
        | no m ↦ counter-behind h none k (omega arith)
      ]
    ]
  ]

  counters-stay : (booked_in T none).counters ≡ T.counters
  counters-stay = ext_get_or 0 (booked_in T none).counters T.counters (counters-length h none) (λ k q. counter-stays k)

  place-stays : (k : ℕ) → k < places → get_or (words_in T) k 0 ≡ get_or T.pays k 0
  place-stays k q = elim (dec_lt k (waiting_in T)) [
    | yes l ↦ get_or-take (waiting_in T) T.pays k 0 l
    | no l ↦
        let n = length-take-le (waiting_in T) T.pays (omega (arith, h.counters.room, h.places.deep)) in
        get_or-eq_default (words_in T) 0 {n = k} (omega arith) ∙ sym (h.places.no_payment k (omega arith) q)
  ]

  pays-stay : (booked_in T none).pays ≡ T.pays
  unfolding booked_in
  pays-stay = ext_get_or 0 (booked_in T none).pays T.pays (places-length h none) (λ k q. elim (dec_lt k places) [
    | yes l ↦ place-booked h none k l ∙ ap (λ ws. get_or ws k 0) (all_stay (words_in T)) ∙ place-stays k l
    | no l ↦ fill-past (λ k. get_or (staying none (words_in T)) k 0) T.pays places k 0 (omega arith)
  ])

  -- ---- the call

  abbrev zeros : List ℕ
  zeros = replicate (members_in T) 0

  none-under : Under (members_in T) none (waits (house_in T))
  none-under i q = omega arith

  zeros-counts : is_counts (members_in T) (house_in T) zeros ≡ true
  zeros-counts = and-of (eq-eqb (length zeros) (members_in T) (length-replicate {A = ℕ} (members_in T) 0))
      (every_of (count_at (house_in T) zeros) (members_in T) (λ i q.
      let z : listed zeros i ≡ 0 = ap (λ (f : Counts). f i) (listed-zeros (members_in T)) in
      le-leb (listed zeros i) (waits (house_in T) i) (omega arith)))

  zeros-covered : is_covered (members_in T) (house_in T) (listed zeros) ≡ true
  zeros-covered = rw (listed-zeros (members_in T)) ((covered-allowed (members_in T) (house_in T) none none-under).1 (none_allowed (holds-sound h)))

  zeros-fine : first ((group_act zeros).tests T) ≡ Ok tt
  unfolding book_act
  zeros-fine = sym (group-tests h zeros zeros-counts) ∙ rw zeros-covered

  -- accepted, with no payment and no sum told, and the tables as they were
  pub zero-group : called (group_act zeros) T ≡ outcome (Ok (record { payments = 0; sum = 0 })) T
  unfolding group_act book_act sent worth
  zero-group =
      called-held (group_act zeros) T (holds-state h)
      ∙ held-fine (group_act zeros) T zeros-fine
      ∙ rw (listed-zeros (members_in T), sum-zero (members_in T), tables-same accounts-stay counters-stay pays-stay) refl
