-- A group books a set of counts if each member is covered then; a release books the head alone if balance + line reach its amount.
use mathlib.Core.Path.{◌≡◌, refl, sym, ap, ap₂, ◌∙◌}
use mathlib.Core.Bool.{Bool, true, false, not}
use mathlib.Core.Logic.{◌↔◌, ◌≢◌}
use mathlib.Core.List.{List, [], ◌∷◌}
use Prim.Native.Nat.{ℕ, ◌+◌, ◌-◌, ◌≤◌, ◌<◌}
use native.Mathlib.Decide.{dec_lt}
use native.Mathlib.Omega.{arith}
use borrow.Author.Tests.{leb-true, eqb-true, eqb-false, eq-eqb, ne_eqb, not-false}
use lib.Dec.{eqb, leb}
use lib.IntN.{pos, ◌+ℤ◌}
use lib.Signed.{le_z}
use lib.ListN.{length, get_or, get_or-eq_default}
use mir.Syntax.{w64}
use mir.Val.{SFits}
use Rattle.rule.specs.Kernel.{Counts, none, sum, Under}
use Rattle.rule.specs.Payment.{amount_of}
use Rattle.rule.specs.House.{House, waits, position, AllowedSet}
use Rattle.rule.proofs.Find.{put_other, put_all}
use Rattle.rule.proofs.Ints.{ints, plus, ≤ℤ-is}
use Rattle.rule.proofs.Demands.{release-covered}
use Rattle.tables.specs.Sizes.{members, most_amount, most_line}
use Rattle.tables.specs.Layout.{Tables, members_in, waiting_in, house_in, last_of, settled_of, waits_of, balance_of, line_of}
use Rattle.tables.specs.State.{every}
use Rattle.tables.specs.Holds.{Holds}
use Rattle.tables.proofs.Tests.{and_both, le-true, true-le}
use Rattle.tables.proofs.Every.{every-at, every_of}
use Rattle.tables.proofs.Balances.{accounts-near}
use Rattle.tables.proofs.Houses.{holds-sound, holds-proper, waits-is, line-is, no-queue}
use Rattle.booking.specs.Booking.{listed, booked_in, Counted, HeadAt}
use Rattle.booking.proofs.Heads.{head-queue}
use Rattle.booking.proofs.Kept.{Books, counts-sum}
use Rattle.answers.specs.Codes.{test, first, is_member}
use Rattle.answers.specs.Outcome.{outcome, held}
use Rattle.answers.specs.declared.Refusal.TheVariants.{Member, Nothing, Cover, Counts as BadCounts}
use Rattle.answers.specs.declared.Refusal.{Refusal}
use Rattle.std.specs.Prelude.{Ok, Err}
use Rattle.answers.proofs.Judging.{first_fine, member-in}
use Rattle.answers.proofs.Outcomes.{held-fine, held-bad, held_same}
use Rattle.settling.specs.Release.{head_amount, head_covered, only_head, release_act}
use Rattle.settling.specs.Group.{count_at, is_counts, counts_fit, cover_at, is_covered, book_act, group_act}

same-bools : (t u : Bool) → (t ≡ true → u ≡ true) → (u ≡ true → t ≡ true) → t ≡ u
same-bools true u f g = sym (f refl)
same-bools false true f g = g refl
same-bools false false f g = refl

-- ---- allowed sets

-- where no count is above what waits, each member is covered exactly when the set is allowed
pub covered-allowed : (n : ℕ) (H : House) (z : Counts) → Under n z (waits H) → (is_covered n H z ≡ true) ↔ AllowedSet n H z
covered-allowed n H z u = (
  λ e. record { within = u; holds = λ i h. record { cover = le-true (pos 0) (position n H z i +ℤ pos (H.line i)) (every-at (cover_at n H z) n i e h) } },
  λ a. every_of (cover_at n H z) n (λ i h. true-le (pos 0) (position n H z i +ℤ pos (H.line i)) (a.holds i h).cover),
)

-- ---- the counts of a group

module _ {T : Tables} (h : Holds T) (k : List ℕ) where
  -- the counters tell whether no count is above what waits
  pub counts-fit : counts_fit T.counters k ≡ is_counts (members_in T) (house_in T) k
  counts-fit = same-bools (counts_fit T.counters k) (is_counts (members_in T) (house_in T) k)
      (λ e. let b = and_both (eqb (length k) (members_in T)) (every by_counters (members_in T)) e in rw b.0
      (every_of (count_at (house_in T) k) (members_in T) (λ i q. there i q (every-at by_counters (members_in T) i b.1 q))))
      (λ e. let b = and_both (eqb (length k) (members_in T)) (every (count_at (house_in T) k) (members_in T)) e in rw b.0
      (every_of by_counters (members_in T) (λ i q. back i q (every-at (count_at (house_in T) k) (members_in T) i b.1 q))))
    where
      by_counters : ℕ → Bool
      by_counters i = leb (listed k i) (waits_of T.counters i)

      there : (i : ℕ) → i < members_in T → by_counters i ≡ true → count_at (house_in T) k i ≡ true
      there i q e = rw (waits-is h i (omega (arith, h.counters.few))) e

      back : (i : ℕ) → i < members_in T → count_at (house_in T) k i ≡ true → by_counters i ≡ true
      back i q e = rw (waits-is h i (omega (arith, h.counters.few))) at e

  -- a list of counts is as long as the member count
  pub counts-length : is_counts (members_in T) (house_in T) k ≡ true → length k ≡ members_in T
  counts-length e = eqb-true (length k) (members_in T) (and_both (eqb (length k) (members_in T)) (every (count_at (house_in T) k) (members_in T)) e).0

-- no more was settled than was accepted
pub settled-last : {T : Tables} → Holds T → (i : ℕ) → i < members → settled_of T.counters i ≤ last_of T.counters i
settled-last h i q = omega (arith, h.numbers.each i q)

-- ---- the answer of a booking that was tried

-- past the members no payment is counted
pub counted-zero : {T : Tables} {k : List ℕ} → Counted T k → (i : ℕ) → members_in T ≤ i → i < members → listed k i ≡ 0
counted-zero {T} {k} d i h q =
    let e : waits (house_in T) i ≡ 0 = ap length (no-queue d.holds i h) in
    omega (arith, d.within i q)

-- the tally of the members counts is how many payments the members settle
pub tally-members : {T : Tables} {k : List ℕ} → Counted T k → sum (length k) (listed k) ≡ sum (members_in T) (listed k)
tally-members {T} {k} d = rw d.members (counts-sum (members_in T) (listed k) d.holds.counters.few (counted-zero d))

-- ---- a group

module _ {T : Tables} (h : Holds T) (k : List ℕ) where
  -- a list that is not one of counts is refused,
  pub group-bad : is_counts (members_in T) (house_in T) k ≡ false → first ((group_act k).tests T) ≡ Err BadCounts
  unfolding group_act
  group-bad e = rw e

  -- and one that is can be tried
  pub group-tests : is_counts (members_in T) (house_in T) k ≡ true → first ((book_act (listed k)).tests T) ≡ first ((group_act k).tests T)
  unfolding group_act
  group-tests e = rw e

  pub group-tried : is_counts (members_in T) (house_in T) k ≡ true → held (book_act (listed k)) T ≡ held (group_act k) T
  unfolding group_act book_act
  group-tried e = held_same (book_act (listed k)) (group_act k) T (λ r. refl) refl (group-tests e)

  pub group-counted : (all : List ℕ) → is_counts (members_in T) (house_in T) k ≡ true → length all ≡ members → listed all ≡ listed k → Counted T all
  group-counted all e l q = record { holds = h; members = l; within = λ i s. omega (arith, ap (λ (f : Counts). f i) q, go i s (dec_lt i (members_in T))) }
    where
      b : (eqb (length k) (members_in T) ≡ true) × (every (count_at (house_in T) k) (members_in T) ≡ true)
      b = and_both (eqb (length k) (members_in T)) (every (count_at (house_in T) k) (members_in T)) e

      go : (i : ℕ) → i < members → Dec (i < members_in T) → listed k i ≤ waits (house_in T) i
      go i s (yes y) = leb-true (listed k i) (waits (house_in T) i) (every-at (count_at (house_in T) k) (members_in T) i b.1 y)
      go i s (no y) =
          let z : listed k i ≡ 0 = get_or-eq_default k 0 (omega (arith, eqb-true (length k) (members_in T) b.0)) in
          omega arith

-- ---- a release

module _ {T : Tables} (h : Holds T) (m : ℕ) where
  refused : {r : Refusal} → first ((release_act m).tests T) ≡ Err r → outcome (Err r) T ≡ held (release_act m) T
  unfolding release_act
  refused e = sym (held-bad (release_act m) T e)

  -- of who is no member it is refused
  pub release_stranger : is_member T.counters m ≡ false → outcome (Err Member) T ≡ held (release_act m) T
  unfolding release_act
  release_stranger e = refused (rw e)

  module _ (member : is_member T.counters m ≡ true) where
    among : m - 1 < members_in T
    among = let i = member-in T.counters m member in omega arith

    -- a member has a seat,
    pub seat : m - 1 < members
    seat = omega (arith, among, h.counters.few)

    -- where balance + line is in the range of an i64
    pub cover-fits : SFits w64 (balance_of T.accounts (m - 1) +ℤ line_of T.accounts (m - 1))
    cover-fits =
        let n = accounts-near h.accounts (m - 1) seat in
        let o = h.accounts.holders (m - 1) among in
        let t1 = ≤ℤ-is (pos 0) (line_of T.accounts (m - 1)) o.line in
        let t2 = ≤ℤ-is (line_of T.accounts (m - 1)) (pos most_line) o.small in
        omega (ints, plus (balance_of T.accounts (m - 1)) (line_of T.accounts (m - 1)), n.above, n.below)

    -- where nothing waits there it is refused
    pub release-nothing : waits_of T.counters (m - 1) ≡ 0 → outcome (Err Nothing) T ≡ held (release_act m) T
    unfolding release_act
    release-nothing e = refused (rw (member, eq-eqb (waits (house_in T) (m - 1)) 0 (waits-is h (m - 1) seat ∙ e)))

    module _ (some : waits_of T.counters (m - 1) ≢ 0) where
      -- else there is a head
      pub has_head : 0 < waits (house_in T) (m - 1)
      has_head = omega (arith, waits-is h (m - 1) seat)

      within-head : Under members (only_head m) (waits (house_in T))
      within-head i q = put_all (λ j x. x ≤ waits (house_in T) j) none (m - 1) 1 i (omega (arith, has_head)) (λ ne. omega arith)

      -- it is covered exactly when balance + line reach its amount,
      head-covered : is_covered (members_in T) (house_in T) (only_head m) ≡ head_covered T m
      head-covered =
          let r = release-covered (holds-sound h) (holds-proper h) (m - 1) among has_head in
          let s = covered-allowed (members_in T) (house_in T) (only_head m) (λ i q. within-head i (omega (arith, h.counters.few))) in
          let x = pos (head_amount T m) in
          let l : balance_of T.accounts (m - 1) +ℤ line_of T.accounts (m - 1) ≡ balance_of T.accounts (m - 1) +ℤ pos ((house_in T).line (m - 1)) = rw
          (line-is h (m - 1) seat) in
          same-bools (is_covered (members_in T) (house_in T) (only_head m)) (head_covered T m)
          (λ e. true-le x (balance_of T.accounts (m - 1) +ℤ line_of T.accounts (m - 1)) (rw l (r.0 (s.0 e))))
          (λ e. s.1 (r.1 (rw l at (le-true x (balance_of T.accounts (m - 1) +ℤ line_of T.accounts (m - 1)) e))))

      -- and its place tells its amount x,
      module _ {k x : ℕ} (g : HeadAt (waiting_in T) T.pays (m - 1) k) (t : x ≡ amount_of (get_or T.pays k 0)) where
        -- which is at most the most,
        pub head_small : x ≤ most_amount
        head_small = omega (arith, (h.places.words k g.within).small)

        amount : head_amount T m ≡ x
        amount = ap (λ (q : List ℕ). amount_of (get_or q 0 0)) (head-queue (omega (arith, h.places.deep, h.counters.room)) g) ∙ sym t

        tests : {b : Bool} → le_z (pos x) (balance_of T.accounts (m - 1) +ℤ line_of T.accounts (m - 1)) ≡ b
            → first ((release_act m).tests T) ≡ first (test (not b) Cover ∷ [])
        unfolding release_act
        tests {b} e =
            let f : head_covered T m ≡ b = ap (λ y. le_z (pos y) (balance_of T.accounts (m - 1) +ℤ line_of T.accounts (m - 1))) amount ∙ e in
            rw (member, ne_eqb (waits (house_in T) (m - 1)) 0 (λ z. omega (arith, has_head)), f)

        -- by which it is refused,
        pub release-short : le_z (pos x) (balance_of T.accounts (m - 1) +ℤ line_of T.accounts (m - 1)) ≡ false → outcome (Err Cover) T ≡ held (release_act m) T
        release-short e = refused (tests e)

        -- or booked
        pub release-done : {n : ℕ} {W : Tables} → le_z (pos x) (balance_of T.accounts (m - 1) +ℤ line_of T.accounts (m - 1)) ≡ true
            → n ≡ settled_of T.counters (m - 1) + 1 → W ≡ booked_in T (only_head m) → outcome (Ok (record { payer = m; number = n; amount = x })) W ≡ held (release_act m) T
        unfolding release_act
        release-done e q f =
            ap₂ (λ y (U : Tables). outcome (Ok (record { payer = m; number = y; amount = x })) U) q f
            ∙ ap (λ y. outcome (Ok (record { payer = m; number = settled_of T.counters (m - 1) + 1; amount = y })) (booked_in T (only_head m))) (sym amount)
            ∙ sym (held-fine (release_act m) T (tests e))

-- ---- what an accepted call books

-- of a list of counts, a group is accepted exactly when the set is allowed
pub group-exact : {T : Tables} → Holds T → (k : List ℕ) → is_counts (members_in T) (house_in T) k ≡ true
    → (first ((group_act k).tests T) ≡ Ok tt) ↔ AllowedSet (members_in T) (house_in T) (listed k)
unfolding book_act
group-exact {T} h k e = rw (← group-tests h k e) (
  λ t. covered.0 (not-false (is_covered (members_in T) (house_in T) (listed k)) (first_fine ((book_act (listed k)).tests T) t).0),
  λ s. rw (covered.1 s),
)
  where
    covered : (is_covered (members_in T) (house_in T) (listed k) ≡ true) ↔ AllowedSet (members_in T) (house_in T) (listed k)
    covered =
        covered-allowed (members_in T) (house_in T) (listed k)
        (λ i q. leb-true (listed k i) (waits (house_in T) i)
        (every-at (count_at (house_in T) k) (members_in T) i (and_both (eqb (length k) (members_in T)) (every (count_at (house_in T) k) (members_in T)) e).1 q))

-- an accepted group books its counts,
pub group-books : {T : Tables} → Holds T → (k : List ℕ) → first ((group_act k).tests T) ≡ Ok tt → Books T (listed k)
unfolding group_act
group-books {T} h k t =
    let e = not-false (is_counts (members_in T) (house_in T) k) (first_fine ((group_act k).tests T) t).0 in
    record { allowed = (group-exact h k e).0 t; past = λ i q l. get_or-eq_default k 0 (omega (arith, counts-length h k e)) }

-- and an accepted release the head alone
pub release-books : {T : Tables} → Holds T → (m : ℕ) → first ((release_act m).tests T) ≡ Ok tt → Books T (only_head m)
unfolding release_act
release-books {T} h m t =
    let f = first_fine ((release_act m).tests T) t in
    let e = not-false (is_member T.counters m) f.0 in
    let i = member-in T.counters m e in
    let some : waits_of T.counters (m - 1) ≢ 0 = λ z. eqb-false (waits (house_in T) (m - 1)) 0 f.1.0 (waits-is h (m - 1) (seat h m e) ∙ z) in
    let covered = head-covered h m e some ∙ not-false (head_covered T m) f.1.1.0 in
    record {
      allowed = (covered-allowed (members_in T) (house_in T) (only_head m) (λ j q. within-head h m e some j (omega (arith, h.counters.few)))).0 covered;
      past = λ j q l. put_other none (m - 1) 1 j (λ z. omega (arith, i.0, i.1));
    }
