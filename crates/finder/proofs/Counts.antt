-- A payment stands below its payer's top exactly where fewer of that payer stand before it than the counts take: so one pass over the
-- places, told by the tops, is the pass with the counts.
use mathlib.Core.Path.{◌≡◌, refl, sym, ap, ◌∙◌}
use mathlib.Core.Bool.{cond}
use mathlib.Core.List.{List, [], ◌∷◌, ◌++◌, append-nil}
use Prim.Native.Nat.{ℕ, suc, ◌+◌, ◌≤◌, ◌<◌}
use native.Mathlib.Decide.{ℕ_discrete, dec_lt}
use native.Mathlib.Numerals.{add-one}
use native.Mathlib.Omega.{arith}
use lib.Dec.{ltb}
use lib.IntN.{ℤ, pos}
use lib.ListN.{length, get_or, set, take, length-append, length-set, replicate, length-replicate, get_or-replicate}
use lib.Seq.{take-suc, length-take-le, get_or-set_same, get_or-set_other}
use borrow.Author.Tests.{lt-ltb, le-ltb}
use Rattle.rule.specs.Payment.{payer_of}
use Rattle.rule.specs.House.{position, LargestSet}
use Rattle.rule.specs.Table.{queue_of, leaving, staying}
use Rattle.rule.proofs.Table.{queue-leaving, leaving-snoc, staying-snoc}
use Rattle.rule.proofs.Sums.{eqb_same, eqb-other}
use Rattle.rule.proofs.Kernel.{largest-cong}
use Rattle.rule.proofs.Cover.{covered-lawful, position-cong}
use Rattle.tables.specs.Sizes.{members}
use Rattle.finder.specs.Tops.{counts_of, Topped, CountsBelow}
use Rattle.finder.specs.Resolve.{house_from, LargestFound}
use Rattle.finder.proofs.Tops.{payer-under, queue-append, queue-own, queue-grows}

module _ (pays tops : List ℕ) (m : ℕ) (h : m < length pays) where
  below-is : let s = payer_of (get_or pays m 0) in ltb (length (queue_of s (take m pays))) (counts_of pays tops s) ≡ ltb m (get_or tops s 0)
  below-is =
      let s = payer_of (get_or pays m 0) in
      let t = get_or tops s 0 in
      let more : length (queue_of s (take (suc m) pays)) ≡ length (queue_of s (take m pays)) + 1 = rw (queue-own pays s m h refl, length-append) (omega arith) in
      elim (dec_lt m t) [
        | yes l ↦ rw (lt-ltb m t l)
            (lt-ltb (length (queue_of s (take m pays))) (length (queue_of s (take t pays))) (omega (arith, more, queue-grows pays t s (suc m) l)))
        | no l ↦ rw (le-ltb m t (omega arith))
            (le-ltb (length (queue_of s (take m pays))) (length (queue_of s (take t pays))) (queue-grows pays m s t (omega arith)))
      ]

  -- the payment at place m leaves if it stands below the top,
  pub leaves-next : leaving (counts_of pays tops) (take (m + 1) pays)
      ≡ leaving (counts_of pays tops) (take m pays) ++ cond (ltb m (get_or tops (payer_of (get_or pays m 0)) 0)) (get_or pays m 0 ∷ []) []
  leaves-next = rw (add-one, take-suc pays m 0 h, leaving-snoc (take m pays) (get_or pays m 0) (counts_of pays tops), below-is)

  -- and stays if it does not
  pub stays-next : staying (counts_of pays tops) (take (m + 1) pays)
      ≡ staying (counts_of pays tops) (take m pays) ++ cond (ltb m (get_or tops (payer_of (get_or pays m 0)) 0)) [] (get_or pays m 0 ∷ [])
  stays-next = rw (add-one, take-suc pays m 0 h, staying-snoc (take m pays) (get_or pays m 0) (counts_of pays tops), below-is)

-- ---- the counts, place by place

-- the counts of what leaves the first m places
pub record Counted (m : ℕ) (pays tops counts : List ℕ) : Type 0 where
  pub each : length counts ≡ members
  pub gone : (k : ℕ) → k < members → get_or counts k 0 ≡ length (queue_of k (leaving (counts_of pays tops) (take m pays)))
  pub few : (k : ℕ) → k < members → get_or counts k 0 ≤ m

pub counted_start : {pays tops : List ℕ} → Counted 0 pays tops (replicate members 0)
counted_start = record {
  each = length-replicate {A = ℕ} members 0;
  gone = λ k h. get_or-replicate {A = ℕ} members k 0 0 h;
  few = λ k h. rw (get_or-replicate {A = ℕ} members k 0 0 h) (omega arith);
}

module _ {pays tops counts : List ℕ} {m : ℕ} (h : m < length pays) (d : Counted m pays tops counts) where
  pub counted-in : {after : List ℕ} → m < get_or tops (payer_of (get_or pays m 0)) 0
      → after ≡ set counts (payer_of (get_or pays m 0)) (get_or counts (payer_of (get_or pays m 0)) 0 + 1) → Counted (m + 1) pays tops after
  counted-in low same =
      let e = lt-ltb m (get_or tops (payer_of (get_or pays m 0)) 0) low in
      let w = get_or pays m 0 in
      let s = payer_of w in
      let v : ℕ = get_or counts s 0 + 1 in
      let long : s < length counts = rw d.each (payer-under w) in
      rw same (record {
        each = simp length-set d.each;
        gone = λ k l. elim (ℕ_discrete k s) [
          | yes q ↦ rw (q, get_or-set_same counts s v 0 long, leaves-next pays tops m h, e, queue-append, length-append, eqb_same {i = s} refl)
              (omega (arith, d.gone s (payer-under w)))
          | no q ↦ rw (
            get_or-set_other counts s k v 0 q,
            leaves-next pays tops m h,
            e,
            queue-append,
            length-append,
            eqb-other {i = s} {j = k} (λ r. q (sym r)),
          ) (omega (arith, d.gone k l))
        ];
        few = λ k l. elim (ℕ_discrete k s) [
          | yes q ↦ rw (q, get_or-set_same counts s v 0 long) (omega (arith, d.few s (payer-under w)))
          | no q ↦ rw (get_or-set_other counts s k v 0 q) (omega (arith, d.few k l))
        ];
      })

  pub counted-out : {after : List ℕ} → get_or tops (payer_of (get_or pays m 0)) 0 ≤ m → after ≡ counts → Counted (m + 1) pays tops after
  counted-out high same = let e = le-ltb m (get_or tops (payer_of (get_or pays m 0)) 0) high in rw same (record {
    each = d.each;
    gone = λ k l. rw (leaves-next pays tops m h, e, append-nil) (d.gone k l);
    few = λ k l. omega (arith, d.few k l);
  })

pub counted-end : {pays tops counts : List ℕ} {used : ℕ} → Topped used pays tops → Counted used pays tops counts → CountsBelow pays tops counts
counted-end {pays} {tops} {counts} {used} t d = record {
  each = d.each;
  below = λ k l. d.gone k l ∙ ap length (queue-leaving k (take used pays) (counts_of pays tops))
      ∙ length-take-le (counts_of pays tops k) (queue_of k (take used pays)) (queue-grows pays used k (get_or tops k 0) (t.within k l));
}

-- so the list of counts is the largest set where the tops are,
pub counted-largest : {n used : ℕ} {pays : List ℕ} {bs lines ys : List ℤ} {tops counts : List ℕ} → n ≤ members
    → LargestFound n used pays bs lines ys tops → CountsBelow pays tops counts
    → LargestSet n (house_from used pays bs lines) (λ i. get_or counts i 0)
counted-largest {n} {used} {pays} {bs} {lines} {counts = counts} few r d =
    largest-cong (covered-lawful n (house_from used pays bs lines)) (λ i. get_or counts i 0) (λ i h. sym (d.below i (omega arith))) r.largest

-- and the positions are where it takes the balances
pub counted-positions : {n used : ℕ} {pays : List ℕ} {bs lines ys : List ℤ} {tops counts : List ℕ} → n ≤ members
    → LargestFound n used pays bs lines ys tops → CountsBelow pays tops counts
    → (i : ℕ) → i < members → get_or ys i (pos 0) ≡ position n (house_from used pays bs lines) (λ j. get_or counts j 0) i
counted-positions {n} {used} {pays} {bs} {lines} {tops} {counts} few r d i h =
    r.booked i h ∙ position-cong n (house_from used pays bs lines) (counts_of pays tops) (λ j. get_or counts j 0) i (sym (d.below i h))
    (λ j k. sym (d.below j (omega arith)))
