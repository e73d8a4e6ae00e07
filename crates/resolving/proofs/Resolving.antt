-- What the steps of a resolution give: the finder's largest set is the tables' own, its counts can be booked, and what is booked and told is the promise.
use mathlib.Core.Path.{◌≡◌, refl, sym, ap, ◌∙◌}
use mathlib.Core.List.{List}
use Prim.Native.Nat.{ℕ, ◌+◌, ◌-◌, ◌≤◌, ◌<◌}
use native.Mathlib.Decide.{dec_lt}
use native.Mathlib.Omega.{arith}
use lib.Dec.{ltb}
use lib.IntN.{ℤ, pos}
use lib.ListN.{length, get_or, take, drop, replicate, length-replicate, get_or-replicate, get_or-eq_default}
use lib.Seq.{ext_get_or, get_or-take, get_or-drop, length-take-le}
use borrow.Author.Tests.{lt-ltb, le-ltb}
use Rattle.rule.specs.Ints.{up}
use Rattle.rule.specs.Kernel.{Counts, sum}
use Rattle.rule.specs.House.{waits, sent, received, LargestSet, Same}
use Rattle.rule.specs.Verdict.{verdict_of}
use Rattle.rule.specs.Resolution.{resolution}
use Rattle.rule.proofs.Lists.{length-listing, get_or-listing}
use Rattle.rule.proofs.Kernel.{largest-unique, largest-cong}
use Rattle.rule.proofs.Cover.{covered-lawful}
use Rattle.rule.proofs.Resolution.{resolution-largest}
use Rattle.rule.proofs.Same.{largest-same}
use Rattle.sets.specs.Sets.{set_of}
use Rattle.sets.proofs.Highest.{set-cong}
use Rattle.finder.specs.Tops.{CountsBelow}
use Rattle.finder.specs.Resolve.{Sits, LargestFound, house_from}
use Rattle.finder.proofs.Tops.{queue-grows}
use Rattle.finder.proofs.Counts.{counted-largest, counted-positions}
use Rattle.tables.specs.Sizes.{members}
use Rattle.tables.specs.Layout.{Tables, members_in, waiting_in, house_in, settled_of, lines_at, line_of}
use Rattle.tables.specs.Holds.{Holds}
use Rattle.tables.proofs.Houses.{holds-payers, holds-sound, no-queue, waiting-sum}
use Rattle.booking.specs.Booking.{listed, booked_in, Counted, Weighed}
use Rattle.booking.proofs.Entering.{can-enter}
use Rattle.booking.proofs.Kept.{counts-sum, booked-count, booked-last}
use Rattle.booking.proofs.Reading.{settled-booked}
use Rattle.answers.specs.declared.Resolution.{Resolution}
use Rattle.std.specs.Prelude.{Ok}
use Rattle.answers.specs.Outcome.{outcome}
use Rattle.answers.specs.Verdicts.{named}
use Rattle.resolving.specs.Resolve.{largest_in, still_waits, told, resolve_act, has_waiting, Balances, LargestIs}

-- ---- the largest set

-- what is read from the lines on are the lines
pub lines_read : {T : Tables} → Holds T → (ls : List ℤ) → let a = T.accounts in
    ((i : ℕ) → i < members → get_or ls i (pos 0) ≡ get_or (take (length a - lines_at) (drop lines_at a)) i (pos 0))
    → (i : ℕ) → i < members → get_or ls i (pos 0) ≡ line_of a i
lines_read {T} h ls e i q =
    let a = T.accounts in
    e i q ∙ get_or-take (length a - lines_at) (drop lines_at a) i (pos 0) (omega (arith, h.accounts.long)) ∙ get_or-drop lines_at a i (pos 0)

module _ {T : Tables} (h : Holds T) {bs : List ℤ} (b : Balances T.accounts bs) (ls : List ℤ) (each_line : length ls ≡ members)
    (same_line : (i : ℕ) → i < members → get_or ls i (pos 0) ≡ line_of T.accounts i) where
  none-counted : Counted T (replicate members 0)
  none-counted = record { holds = h; members = length-replicate {A = ℕ} members 0; within = λ i q. rw (get_or-replicate {A = ℕ} members i 0 0 q) (omega arith) }

  -- the finder can start from the tables,
  pub can-find : (tops : List ℕ) → length tops ≡ members → Sits (members_in T) (waiting_in T) T.pays bs ls tops
  can-find tops each_top = record {
    few = h.counters.few;
    entering = can-enter none-counted bs b.each b.same;
    each_line = each_line;
    each_top = each_top;
    nonneg = λ i l. rw (same_line i (omega (arith, h.counters.few))) (h.accounts.holders i l).line;
    payers = holds-payers h;
    sound = record { covers = λ i l. let q : i < members = omega (arith, h.counters.few) in rw (b.same i q, same_line i q) ((holds-sound h).covers i l) };
  }

  same-house : Same (members_in T) (house_from (waiting_in T) T.pays bs ls) (house_in T)
  same-house = record {
    lines = λ i l. ap up (sym (same_line i (omega (arith, h.counters.few))));
    balances = λ i l. sym (b.same i (omega (arith, h.counters.few)));
    queues = λ i l. refl;
  }

  -- and its counts are those of the largest set of their house
  pub largest-found : {ys : List ℤ} {tops counts : List ℕ} → LargestFound (members_in T) (waiting_in T) T.pays bs ls ys tops
      → CountsBelow T.pays tops counts → LargestIs T counts
  largest-found {ys} {tops} {counts} r d = record {
    each = d.each;
    largest = largest-same same-house (counted-largest h.counters.few r d);
    past = λ i l q. omega (arith, d.below i q, queue-grows T.pays (waiting_in T) i (get_or tops i 0) (r.topped.within i q), ap length (no-queue h i l));
  }

  -- and its positions are where they take the balances
  pub found-weighed : {ys : List ℤ} {tops counts : List ℕ} → LargestFound (members_in T) (waiting_in T) T.pays bs ls ys tops
      → CountsBelow T.pays tops counts → Weighed T counts ys
  unfolding sent received
  found-weighed {ys} {tops} {counts} r d = record {
    members = r.each;
    weighs = λ i q. counted-positions h.counters.few r d i q ∙ rw (b.same i q);
  }

resolution-same : (x y : Resolution) → x.verdict ≡ y.verdict → x.payments ≡ y.payments → x.sum ≡ y.sum → x.waiting ≡ y.waiting → x ≡ y
resolution-same x y v p s w j = record { verdict = v j; payments = p j; sum = s j; waiting = w j }

-- ---- the list told

ltb-plus : (s z w : ℕ) → ltb (s + z) (s + w) ≡ ltb z w
ltb-plus s z w = elim (dec_lt z w) [
  | yes q ↦ lt-ltb (s + z) (s + w) (omega arith) ∙ sym (lt-ltb z w q)
  | no q ↦ le-ltb (s + z) (s + w) (omega arith) ∙ sym (le-ltb z w (omega arith))
]

module _ {T : Tables} {all : List ℕ} (h : Holds T) (l : LargestIs T all) where
  -- the counts can be booked,
  pub largest-counted : Counted T all
  largest-counted = record {
    holds = h;
    members = l.each;
    within = λ i q. elim (dec_lt i (members_in T)) [ yes k ↦ l.largest.allowed.within i k | no k ↦ omega (arith, l.past i (omega arith) q) ];
  }

  largest-at : (i : ℕ) → listed all i ≡ listed (largest_in T) i
  unfolding largest_in
  largest-at i = elim (dec_lt i (members_in T)) [
    | yes k ↦ largest-unique l.largest (resolution-largest (holds-sound h)) i k
        ∙ sym (get_or-listing (members_in T) (resolution (members_in T) (house_in T)) i 0 k)
    | no k ↦
        let long = length-listing (members_in T) (resolution (members_in T) (house_in T)) in
        rest (omega arith) (dec_lt i members) ∙ sym (get_or-eq_default (largest_in T) 0 {n = i} (omega (arith, long)))
  ]
    where
      rest : members_in T ≤ i → Dec (i < members) → listed all i ≡ 0
      rest k (yes q) = l.past i k q
      rest k (no q) = get_or-eq_default all 0 {n = i} (omega (arith, l.each))

  -- they are the computed ones,
  largest-all : listed all ≡ listed (largest_in T)
  largest-all j i = largest-at i j

  largest-take : take (members_in T) all ≡ largest_in T
  unfolding largest_in
  largest-take =
      let long = length-take-le (members_in T) all (omega (arith, h.counters.few, l.each)) in
      ext_get_or 0 (take (members_in T) all) (largest_in T) (long ∙ sym (length-listing (members_in T) (resolution (members_in T) (house_in T))))
      (λ i q. get_or-take (members_in T) all i 0 (omega (arith, long)) ∙ largest-at i)

  -- told as the first of them, they are the largest set,
  pub largest-told : {k : List ℕ} → k ≡ take (members_in T) all → LargestSet (members_in T) (house_in T) (listed k)
  largest-told {k} e =
      largest-cong (covered-lawful (members_in T) (house_in T)) (listed k) (λ i q. rw e (sym (get_or-take (members_in T) all i 0 q))) l.largest

  ends : let W = booked_in T (listed all) in set_of (members_in W) (has_waiting W.counters) ≡ set_of (members_in T) (still_waits (house_in T) (listed all))
  ends =
      let c = (booked_in T (listed all)).counters in
      ap (λ n. set_of n (has_waiting c)) (booked-count h (listed all))
      ∙ set-cong (members_in T) (has_waiting c) (still_waits (house_in T) (listed all)) (λ i q.
      let k : i < members = omega (arith, h.counters.few) in
      rw (settled-booked h (listed all) i k, booked-last h (listed all) i k, sym (h.numbers.each i k))
      (ltb-plus (settled_of T.counters i) (listed all i) (waits (house_in T) i)))

  each-counted : sum members (listed all) ≡ sum (members_in T) (listed all)
  each-counted = counts-sum (members_in T) (listed all) h.counters.few l.past

  -- and what the booking and the telling leave is what a resolution does
  pub settles : {W : Tables} {k' : List ℕ} (k : List ℕ) (x : Resolution) → W ≡ booked_in T (listed all)
      → k' ≡ take (members_in T) all → x.verdict ≡ named (verdict_of (waiting_in T) (sum members (listed all))) → x.payments ≡ sum members (listed all)
      → x.sum ≡ sum (members_in T) (sent (house_in T) (listed all))
      → x.waiting ≡ set_of (members_in W) (has_waiting W.counters)
      → outcome (Ok x, k') W ≡ (resolve_act k).does T
  unfolding resolve_act
  settles k x eb ek ev en es ew =
      let y : x ≡ told (members_in T) (house_in T) (listed all) = resolution-same x (told (members_in T) (house_in T) (listed all))
      (ev ∙ ap (λ w. named (verdict_of w (sum members (listed all)))) (sym (waiting-sum h))
      ∙ ap (λ n. named (verdict_of (sum (members_in T) (waits (house_in T))) n)) each-counted)
      (en ∙ each-counted)
      es
      (ew ∙ ap (λ (Y : Tables). set_of (members_in Y) (has_waiting Y.counters)) eb ∙ ends) in
      (λ j. outcome (Ok (y j), (ek ∙ largest-take) j) (eb j))
      ∙ ap (λ (z : Counts). outcome (Ok (told (members_in T) (house_in T) z), largest_in T) (booked_in T z)) largest-all
