-- A short member is not covered, so it has a payment in; and with its last one off, all that stood before stands.
use mathlib.Core.Path.{◌≡◌, sym, ◌∙◌}
use mathlib.Core.Bool.{true, false, cond}
use mathlib.Core.List.{List}
use Prim.Native.Nat.{ℕ, suc, ◌-◌, ◌≤◌, ◌<◌}
use native.Mathlib.Decide.{ℕ_discrete}
use native.Mathlib.Omega.{arith}
use lib.Dec.{eqb}
use lib.IntN.{ℤ, pos, ◌+ℤ◌, ◌-ℤ◌}
use lib.Signed.{lt_z}
use lib.ListN.{length, get_or, take, length-set}
use lib.Seq.{get_or-set_same, get_or-set_other}
use Rattle.rule.specs.Kernel.{Counts, put, lower}
use Rattle.rule.specs.Workings.Law.{Around}
use Rattle.rule.specs.Payment.{payee_of, amount_of, amount_to}
use Rattle.rule.specs.House.{House, waits, position, leeway, Covered}
use Rattle.rule.specs.Table.{queue_of}
use Rattle.rule.proofs.Ints.{plus, minus, ints, nonneg-is, nonneg_of}
use Rattle.rule.proofs.Sums.{sum-strict}
use Rattle.rule.proofs.Kernel.{take-off}
use Rattle.rule.proofs.Cover.{covered-lawful}
use Rattle.rule.proofs.Find.{put_all, around-lower}
use Rattle.tables.specs.Sizes.{members}
use Rattle.finder.specs.Limits.{far_amount}
use Rattle.finder.specs.Tops.{counts_of, height, Linked}
use Rattle.finder.specs.Finder.{InRange, Stood, Ready, Short, Off, TakenOff}
use Rattle.finder.proofs.Tops.{payee-under, one_less, last-stands, top_above}
use Rattle.finder.proofs.Links.{linked-below}
use Rattle.finder.proofs.Positions.{moved_at, moved-far}
use Rattle.finder.proofs.Cover.{position-off}

-- ---- short or covered

module _ {n used : ℕ} {H : House} {pays : List ℕ} {xs lines : List ℤ} {ts : List ℕ} (st : Stood n used H pays xs lines ts) (i : ℕ) (h : i < n) where
  pub short-uncovered : Short xs lines i ≡ true → ¬ Covered n H i (counts_of pays ts)
  short-uncovered t c =
      let z = position n H (counts_of pays ts) i in
      let l = leeway H i in
      let u : lt_z z (pos 0 -ℤ l) ≡ true = rw (st.stand i (omega (arith, st.few)), st.line i h) at t in
      omega (ints, nonneg-is (z +ℤ l) c.cover, plus z l, minus (pos 0) l)

  pub else-covered : Short xs lines i ≡ false → Covered n H i (counts_of pays ts)
  else-covered t =
      let z = position n H (counts_of pays ts) i in
      let l = leeway H i in
      let u : lt_z z (pos 0 -ℤ l) ≡ false = rw (st.stand i (omega (arith, st.few)), st.line i h) at t in
      record { cover = nonneg_of (z +ℤ l) (omega (ints, plus z l, minus (pos 0) l)) }

  some_in : Short xs lines i ≡ true → 0 < counts_of pays ts i
  some_in t = omega (arith, take-off (covered-lawful n H) (counts_of pays ts) i st.allowed (st.around.above st.some st.allowed) h (short-uncovered t))

-- so a payment of a short member can be taken off
pub off-ready : {n used : ℕ} {pays befores : List ℕ} {xs lines : List ℤ} {ts : List ℕ} {i : ℕ}
    → Ready n used pays xs lines ts → Linked used pays befores → i < n → Short xs lines i ≡ true → Off pays befores xs ts i
off-ready {pays} {ts} {i} r k h t =
    let inside : i < members = omega (arith, r.stood.few) in
    let top = r.ranges.topped in
    record {
      member = inside;
      steady = record { each = r.ranges.each_position; near = λ k l. omega (arith, r.ranges.near k l) };
      each = top.each;
      places = omega (arith, top.within i inside, top.places);
      some = top_above pays i (get_or ts i 0) (some_in r.stood i h t);
      behind = r.ranges.behind i inside;
      small = λ k l. r.ranges.small k (omega (arith, top.within i inside));
      linked = linked-below k (top.within i inside);
    }

-- ---- one payment off

counts-path : {f g : Counts} → ((i : ℕ) → f i ≡ g i) → f ≡ g
counts-path e = λ k i. e i k

counts-off : {p : ℕ} {pays : List ℕ} {s : ℕ} {xs ys : List ℤ} {ts us : List ℕ} (t : TakenOff p pays s xs ys ts us) → s < length ts
    → counts_of pays us ≡ put (counts_of pays ts) s (length (queue_of s (take t.place pays)))
counts-off {pays} {s} {ts} {us} t h = counts-path (λ i.
    put_all (λ m x. counts_of pays us m ≡ x) (counts_of pays ts) s (length (queue_of s (take t.place pays))) i
    (rw (t.tops, get_or-set_same ts s t.top 0 h, t.same))
    (λ ne. rw (t.tops, get_or-set_other ts s i t.top 0 ne)))

module _ {used : ℕ} {pays : List ℕ} {xs ys lines : List ℤ} {ts us : List ℕ} {s p : ℕ} (r : InRange used pays xs lines ts) (inside : s < members)
    (t : TakenOff p pays s xs ys ts us) where
  payment-is : {n : ℕ} {H : House} → Stood n used H pays xs lines ts → s < n
      → get_or (H.queue s) (length (queue_of s (take t.place pays))) 0 ≡ get_or pays t.place 0
  payment-is st h = rw (st.queues s h) (last-stands t.last used (r.topped.within s inside))

  around-off : {n : ℕ} {H : House} → Stood n used H pays xs lines ts → s < n → Short xs lines s ≡ true → Around n (Covered n H) (waits H) (counts_of pays us)
  unfolding lower
  around-off {n} {H} st h short =
      let e : counts_of pays ts s - 1 ≡ length (queue_of s (take t.place pays)) = omega (arith, one_less t.last) in
      rw (counts-off t (rw r.topped.each inside), ← e) (around-lower (covered-lawful n H) s st.around h (short-uncovered st s h short))

  stand-off : {n : ℕ} {H : House} → Stood n used H pays xs lines ts → s < n → (i : ℕ) → i < members → get_or ys i (pos 0) ≡ position n H (counts_of pays us) i
  stand-off {n} {H} st h i k =
      let w = get_or pays t.place 0 in
      let q = length (queue_of s (take t.place pays)) in
      let one : counts_of pays ts s ≡ suc q = one_less t.last in
      let here : get_or ys i (pos 0) ≡ get_or xs i (pos 0) -ℤ pos (amount_to i w) +ℤ pos (cond (eqb s i) (amount_of w) 0) =
      rw t.positions (moved_at xs (payee_of w) s (amount_of w) i (rw r.each_position (payee-under w)) (rw r.each_position inside)) in
      let there : position n H (put (counts_of pays ts) s q) i ≡ position n H (counts_of pays ts) i -ℤ pos (amount_to i w) +ℤ pos (cond (eqb s i) (amount_of w) 0) =
      rw (payment-is st h) at (position-off n H (counts_of pays ts) s q one (omega (arith, st.around.within s h)) i h) in
      rw (counts-off t (rw r.topped.each inside)) (here ∙ rw (st.stand i k) (sym there))

  -- every house that stood so still does,
  pub stood-off : {n : ℕ} {H : House} → Stood n used H pays xs lines ts → s < n → Short xs lines s ≡ true → Stood n used H pays ys lines us
  stood-off st h short = record {
    few = st.few;
    some = st.some;
    allowed = st.allowed;
    queues = st.queues;
    line = st.line;
    stand = stand-off st h;
    around = around-off st h short;
  }

  lowered : (i : ℕ) → get_or us i 0 ≤ get_or ts i 0
  lowered i = elim (ℕ_discrete i s) [
    | yes e ↦ rw (e, t.tops, get_or-set_same ts s t.top 0 (rw r.topped.each inside)) (omega (arith, t.low, t.last.under))
    | no e ↦ rw (t.tops, get_or-set_other ts s i t.top 0 e) (omega arith)
  ]

  -- the sum of the tops falls,
  pub height-off : height us < height ts
  unfolding height
  height-off = sum-strict members (λ i. get_or us i 0) (λ i. get_or ts i 0) s (λ i k. lowered i) inside
      (rw (t.tops, get_or-set_same ts s t.top 0 (rw r.topped.each inside)) (omega (arith, t.low, t.last.under)))

  -- and as it falls by one or more, no position can leave its range
  pub ranges-off : InRange used pays ys lines us
  ranges-off = record {
    topped = record {
      places = r.topped.places;
      each = rw t.tops (simp length-set r.topped.each);
      within = λ i h. omega (arith, lowered i, r.topped.within i h);
    };
    behind = λ i h. elim (ℕ_discrete i s) [
      | yes e ↦ rw (e, t.tops, get_or-set_same ts s t.top 0 (rw r.topped.each inside)) t.behind
      | no e ↦ rw (t.tops, get_or-set_other ts s i t.top 0 e) (r.behind i h)
    ];
    each_position = rw t.positions (simp length-set r.each_position);
    each_line = r.each_line;
    small = r.small;
    near = λ i h.
        let w = get_or pays t.place 0 in
        let fits : amount_of w ≤ far_amount = r.small t.place (omega (arith, t.last.under, r.topped.within s inside)) in
        rw t.positions (omega (
          arith,
          moved-far xs (payee_of w) s (amount_of w) i (rw r.each_position (payee-under w)) (rw r.each_position inside),
          fits,
          height-off,
          r.near i h,
        ));
  }
