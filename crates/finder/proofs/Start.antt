-- With every payment entered and in, the finder can start; so what it finds is the largest set of the house that the lists hold.
use mathlib.Core.Path.{◌≡◌, refl, ap, ◌∙◌}
use mathlib.Core.Bool.{Bool, true, false, cond}
use mathlib.Core.List.{List, [], ◌∷◌}
use Prim.Native.Nat.{ℕ, zero, suc, ◌+◌, ◌*◌, ◌≤◌, ◌<◌}
use native.Mathlib.Omega.{arith}
use native.Mathlib.Numerals.{add-one}
use lib.Dec.{eqb}
use lib.IntN.{ℤ, pos, ◌+ℤ◌, ◌-ℤ◌}
use lib.Signed.{◌≤ℤ◌}
use lib.ListN.{length, get_or, take, length-set}
use lib.Seq.{take-suc, take-length, take-take, get_or-take, length-take-le}
use Rattle.rule.specs.Kernel.{Counts, none, sum, Under}
use Rattle.rule.specs.Ints.{up}
use Rattle.rule.specs.Payment.{payer_of, payee_of, amount_of, amount_to}
use Rattle.rule.specs.Queue.{total, worth}
use Rattle.rule.specs.House.{sent, received}
use Rattle.rule.specs.Table.{queue_of}
use Rattle.rule.proofs.Ints.{plus, minus, eq_of, ints, nonneg-is}
use Rattle.rule.proofs.Sums.{sum-cong}
use Rattle.rule.proofs.Find.{around-start, around-cong}
use Rattle.rule.proofs.Bounds.{total-append}
use Rattle.rule.proofs.Cover.{none_allowed, covered-lawful, position-cong}
use Rattle.rule.proofs.Table.{by-payers}
use Rattle.rule.proofs.Kernel.{largest-cong}
use Rattle.tables.specs.Sizes.{members, places}
use Rattle.finder.specs.Tops.{counts_of, height, Topped, AllIn}
use Rattle.finder.specs.Positions.{moved, Entering, Entered}
use Rattle.finder.specs.Finder.{Stood, Ready, FoundSet}
use Rattle.finder.specs.Resolve.{house_from, Sits, LargestFound}
use Rattle.finder.proofs.Tops.{payer-under, payee-under, queue-append}
use Rattle.finder.proofs.Positions.{moved_at, moved-far}
use Rattle.finder.proofs.Rounds.{finds-largest}

-- ---- one payment more

one : (f : ℕ → ℕ) (w : ℕ) (b : Bool) → total f (cond b (w ∷ []) []) ≡ cond b (f w) 0
one f w true = omega arith
one f w false = refl

sent-more : (pays : List ℕ) (m i : ℕ) → m < length pays → let w = get_or pays m 0 in
    total amount_of (queue_of i (take (m + 1) pays)) ≡ total amount_of (queue_of i (take m pays)) + cond (eqb (payer_of w) i) (amount_of w) 0
sent-more pays m i h = rw (add-one, take-suc pays m 0 h, queue-append, total-append, one amount_of (get_or pays m 0) (eqb (payer_of (get_or pays m 0)) i))

received_more : (pays : List ℕ) (m i : ℕ) → m < length pays
    → total (amount_to i) (take (m + 1) pays) ≡ total (amount_to i) (take m pays) + amount_to i (get_or pays m 0)
received_more pays m i h = rw (add-one, take-suc pays m 0 h, total-append) (omega arith)

pub entered-next : {used m : ℕ} {pays : List ℕ} {bs xs ys : List ℤ} → Entering used pays bs → m < used → Entered m pays bs xs
    → ys ≡ moved xs (payer_of (get_or pays m 0)) (payee_of (get_or pays m 0)) (amount_of (get_or pays m 0)) → Entered (m + 1) pays bs ys
entered-next {used} {m} {pays} {bs} {xs} {ys} g h d e = record {
  each = rw e (simp length-set d.each);
  sums = λ i k.
      let b = get_or bs i (pos 0) in
      let x = get_or xs i (pos 0) in
      let s = total amount_of (queue_of i (take m pays)) in
      let t = total (amount_to i) (take m pays) in
      let c : ℕ = cond (eqb (payer_of w) i) (amount_of w) 0 in
      let r : ℕ = amount_to i w in
      rw (e, sent-more pays m i (omega (arith, g.places)), received_more pays m i (omega (arith, g.places)))
      (moved_at xs (payer_of w) (payee_of w) (amount_of w) i payer payee ∙ eq_of (x -ℤ pos c +ℤ pos r) (b -ℤ pos (s + c) +ℤ pos (t + r))
      (omega (
        ints,
        d.sums i k,
        minus x (pos c),
        plus (x -ℤ pos c) (pos r),
        minus b (pos s),
        plus (b -ℤ pos s) (pos t),
        minus b (pos (s + c)),
        plus (b -ℤ pos (s + c)) (pos (t + r)),
      )));
  near = λ i k. rw e (omega (arith, d.near i k, g.small m h, moved-far xs (payer_of w) (payee_of w) (amount_of w) i payer payee));
}
  where
    w : ℕ
    w = get_or pays m 0

    payer : payer_of w < length xs
    payer = rw d.each (payer-under w)

    payee : payee_of w < length xs
    payee = rw d.each (payee-under w)

-- ---- the tops

sum-le : (n : ℕ) (f : Counts) → Under n f (λ i. places) → sum n f ≤ n * places
sum-le zero f u = omega arith
sum-le (suc n) f u = omega (arith, sum-le n f (λ i h. u i (omega arith)), u n (omega arith))

height-le : {used : ℕ} {pays ts : List ℕ} → used ≤ places → Topped used pays ts → height ts ≤ members * places
unfolding height
height-le {ts} f t = sum-le members (λ i. get_or ts i 0) (λ i h. omega (arith, t.within i h))

-- ---- the start

worth-all : (f : ℕ → ℕ) (q : List ℕ) → worth f q (length q) ≡ total f q
unfolding worth
worth-all f q = rw take-length

line-is : (z : ℤ) → pos 0 ≤ℤ z → z ≡ pos (up z)
line-is z h = eq_of z (pos (up z)) (omega (arith, nonneg-is z h))

module _ {n used : ℕ} {pays : List ℕ} {bs xs lines : List ℤ} {os ts : List ℕ} (g : Sits n used pays bs lines os) (d : Entered used pays bs xs)
    (t : AllIn used pays ts) where
  full : (i : ℕ) → i < members → counts_of pays ts i ≡ length (queue_of i (take used pays))
  full i h = rw (t.whole i h)

  sends : (i : ℕ) → i < members → sent (house_from used pays bs lines) (counts_of pays ts) i ≡ total amount_of (queue_of i (take used pays))
  unfolding sent
  sends i h = rw (full i h) (worth-all amount_of (queue_of i (take used pays)))

  receives : (i : ℕ) → received n (house_from used pays bs lines) (counts_of pays ts) i ≡ total (amount_to i) (take used pays)
  unfolding received
  receives i =
      sum-cong n (λ j. worth (amount_to i) (queue_of j (take used pays)) (counts_of pays ts j)) (λ j. total (amount_to i) (queue_of j (take used pays)))
      (λ j h. rw (full j (omega (arith, g.few))) (worth-all (amount_to i) (queue_of j (take used pays))))
      ∙ by-payers n (amount_to i) (take used pays) g.payers

  stood-start : Stood n used (house_from used pays bs lines) pays xs lines ts
  stood-start = record {
    few = g.few;
    some = none;
    allowed = none_allowed g.sound;
    queues = λ i h. refl;
    line = λ i h. line-is (get_or lines i (pos 0)) (g.nonneg i h);
    stand = λ i h. rw (sends i h, receives i) (d.sums i h);
    around = around-cong (counts_of pays ts) around-start (λ i h. full i (omega (arith, g.few)));
  }

  -- the finder can start from everything,
  pub ready-start : Ready n used pays xs lines ts
  ready-start = record {
    ranges = record {
      topped = t.topped;
      behind = t.behind;
      each_position = d.each;
      each_line = g.each_line;
      small = g.entering.small;
      near = λ i h. omega (arith, d.near i h, g.entering.few, height-le g.entering.few t.topped);
    };
    house = house_from used pays bs lines;
    stood = stood-start;
  }

  -- and what it finds from there is the resolution
  pub resolved : {ys : List ℤ} {us : List ℕ} → FoundSet n used pays lines xs ys ts us → LargestFound n used pays bs lines ys us
  resolved f = record {
    topped = f.ranges.topped;
    largest = finds-largest f stood-start;
    each = f.ranges.each_position;
    booked = (f.keeps (house_from used pays bs lines) stood-start).stand;
  }

-- ---- the places in use

-- a house sits the same in the places in use alone,
module _ {n used : ℕ} {pays : List ℕ} {bs lines : List ℤ} {os : List ℕ} (g : Sits n used pays bs lines os) where
  waiting-length : length (take used pays) ≡ used
  waiting-length = length-take-le used pays g.entering.places

  pub sits-waiting : Sits n (length (take used pays)) (take used pays) bs lines os
  sits-waiting = record {
    few = g.few;
    entering = record {
      few = omega (arith, waiting-length, g.entering.few);
      places = omega arith;
      each = g.entering.each;
      small = λ k h. let l : k < used = omega (arith, waiting-length) in rw (get_or-take used pays k 0 l) (g.entering.small k l);
      near = g.entering.near;
    };
    each_line = g.each_line;
    each_top = g.each_top;
    nonneg = g.nonneg;
    payers = rw take-length g.payers;
    sound = simp take-length g.sound;
  }

  -- and what is the largest set there is the largest set
  pub found-waiting : {ys : List ℤ} {us : List ℕ} → LargestFound n (length (take used pays)) (take used pays) bs lines ys us
      → LargestFound n used pays bs lines ys us
  found-waiting {ys} {us} f =
      let H = house_from used pays bs lines in
      let within : (i : ℕ) → i < members → get_or us i 0 ≤ used = λ i h. omega (arith, waiting-length, f.topped.within i h) in
      let same : (i : ℕ) → i < members → counts_of (take used pays) us i ≡ counts_of pays us i =
      λ i h. ap (λ (ws : List ℕ). length (queue_of i ws)) (take-take (get_or us i 0) used pays (within i h)) in
      record {
        topped = record { places = g.entering.places; each = f.topped.each; within = within };
        largest = largest-cong (covered-lawful n H) (counts_of pays us) (λ i h. same i (omega (arith, g.few))) (simp take-length at f.largest);
        each = f.each;
        booked = λ i h. simp take-length at (f.booked i h)
            ∙ position-cong n H (counts_of (take used pays) us) (counts_of pays us) i (same i h) (λ j k. same j (omega (arith, g.few)));
      }
