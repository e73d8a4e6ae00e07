-- Releases, groups and resolutions: the calls' answers and tables are those of the lines, from what the calls promise.
use mathlib.Core.Path.{◌≡◌, refl, sym, ap, ◌∙◌}
use mathlib.Core.Bool.{Bool, true, false, cond}
use mathlib.Core.Logic.{◌⊎◌, inl, inr}
use mathlib.Core.List.{List}
use Prim.Native.Nat.{ℕ, ◌≤◌, ◌<◌}
use native.Mathlib.Omega.{arith}
use native.Mathlib.Decide.{dec_lt}
use borrow.Author.Tests.{lt-ltb, le-ltb, leb-true, eq-eqb, eqb-true}
use lib.Dec.{eqb}
use lib.ListN.{length, get_or, take}
use lib.Seq.{ext_get_or, get_or-take, length-take-le}
use Rattle.rule.specs.Kernel.{Counts, sum}
use Rattle.rule.specs.House.{House, waits}
use Rattle.rule.specs.Verdict.{verdict}
use Rattle.tables.specs.Sizes.{members, places}
use Rattle.tables.specs.Layout.{Tables, members_in, house_in}
use Rattle.tables.specs.State.{every}
use Rattle.tables.specs.Holds.{Holds}
use Rattle.tables.proofs.Tests.{and_both}
use Rattle.tables.proofs.Every.{every-at}
use Rattle.tables.proofs.Houses.{few-wait}
use Rattle.booking.specs.Booking.{listed, booked_in}
use Rattle.settling.specs.Group.{count_at, is_counts, group_act}
use Rattle.settling.proofs.Settles.{group-bad}
use Rattle.resolving.specs.Resolve.{largest_in, told, resolve_act}
use Rattle.resolving.proofs.Resolves.{resolve-waiting}
use Rattle.answers.specs.Outcome.{Outcome, outcome, held}
use Rattle.answers.specs.Verdicts.{verdict_number, named}
use Rattle.answers.specs.declared.Refusal.{Refusal}
use Rattle.answers.specs.declared.Resolution.{Resolution}
use Rattle.std.specs.Prelude.{Ok, Err, Result}
use Rattle.answers.proofs.Outcomes.{held-fine, held-bad}
use Rattle.daylines.specs.Calls.{most_count, capped, resolution_says, resolve_does}

-- ---- counts in 16 bits

least-few : (x w : ℕ) → w ≤ places → capped x ≤ w → x ≡ capped x
least-few x w f h = elim (dec_lt x most_count) [
  | yes q ↦ sym (ap (λ b. cond b x most_count) (lt-ltb x most_count q))
  | no q ↦ let e = ap (λ b. cond b x most_count) (le-ltb x most_count (omega arith)) in absurd (omega arith)
]

least-same : (x w : ℕ) → w ≤ places → x ≤ w → x ≡ capped x
least-same x w f h = sym (ap (λ b. cond b x most_count) (lt-ltb x most_count (omega arith)))

module _ (t : Tables) (h : Holds t) (k w : List ℕ) (same : length w ≡ length k) (are : (i : ℕ) → i < length k → get_or w i 0 ≡ capped (get_or k i 0)) where
  counts-in : (l : List ℕ) → is_counts (members_in t) (house_in t) l ≡ true
      → (length l ≡ members_in t) × ((i : ℕ) → i < members_in t → get_or l i 0 ≤ waits (house_in t) i)
  counts-in l e =
      let b = and_both (eqb (length l) (members_in t)) (every (count_at (house_in t) l) (members_in t)) e in
      (eqb-true (length l) (members_in t) b.0, λ i q. leb-true (get_or l i 0) (waits (house_in t) i) (every-at (count_at (house_in t) l) (members_in t) i b.1 q))

  both : (bk bw : Bool) → is_counts (members_in t) (house_in t) k ≡ bk → is_counts (members_in t) (house_in t) w ≡ bw
      → (w ≡ k) ⊎ ((is_counts (members_in t) (house_in t) k ≡ false) × (is_counts (members_in t) (house_in t) w ≡ false))
  both true bw e f = inl (ext_get_or 0 w k same at)
    where
      c : (length k ≡ members_in t) × ((i : ℕ) → i < members_in t → get_or k i 0 ≤ waits (house_in t) i)
      c = counts-in k e

      at : (i : ℕ) → i < length w → get_or w i 0 ≡ get_or k i 0
      at i q =
          let l : i < length k = omega arith in
          are i l ∙ sym (least-same (get_or k i 0) (waits (house_in t) i) (few-wait h i) (c.1 i (omega (arith, c.0))))
  both false true e f = inl (ext_get_or 0 w k same at)
    where
      c : (length w ≡ members_in t) × ((i : ℕ) → i < members_in t → get_or w i 0 ≤ waits (house_in t) i)
      c = counts-in w f

      at : (i : ℕ) → i < length w → get_or w i 0 ≡ get_or k i 0
      at i q =
          let l : i < length k = omega arith in
          are i l ∙ sym (least-few (get_or k i 0) (waits (house_in t) i) (few-wait h i) (omega (arith, are i l, c.1 i (omega (arith, c.0)))))
  both false false e f = inr (e, f)

  -- a group by counts in 16 bits is the group by the numbers read
  pub group-same : held (group_act w) t ≡ held (group_act k) t
  unfolding group_act
  group-same = elim (both (is_counts (members_in t) (house_in t) k) (is_counts (members_in t) (house_in t) w) refl refl) [
    | inl e ↦ ap (λ (l : List ℕ). held (group_act l) t) e
    | inr e ↦ held-bad (group_act w) t (group-bad h w e.1) ∙ sym (held-bad (group_act k) t (group-bad h k e.0))
  ]

-- as the code hands them on: the first of the array
pub group-narrowed : (t : Tables) → Holds t → (counts r : List ℕ) → length counts ≤ members → length r ≡ members
    → ((i : ℕ) → i < length counts → get_or r i 0 ≡ capped (get_or counts i 0)) → held (group_act (take (length counts) r)) t ≡ held (group_act counts) t
group-narrowed t h counts r few e f =
    group-same t h counts (take (length counts) r) (length-take-le (length counts) r (omega arith)) (λ i q. get_or-take (length counts) r i 0 q ∙ f i q)

-- ---- the largest allowed set

-- the verdict told is the rule's
number-named : (n : ℕ) (H : House) (z : Counts) → verdict_number (named (verdict n H z)) ≡ verdict n H z
number-named n H z = go (eqb (sum n (waits H)) 0) (eqb (sum n z) 0) (eqb (sum n z) (sum n (waits H)))
  where
    go : (x y w : Bool) → verdict_number (named (cond x 0 (cond y 3 (cond w 1 2)))) ≡ cond x 0 (cond y 3 (cond w 1 2))
    go true y w = refl
    go false true w = refl
    go false false true = refl
    go false false false = refl

-- an accepted resolution says and leaves what its line does
pub resolve-line : (t : Tables) (n : ℕ) (k : List ℕ) → Holds t → length k ≡ members_in t → {x : Resolution} {l : List ℕ} {W : Tables}
    → outcome (Ok x, l) W ≡ held (resolve_act k) t
    → outcome (resolution_says n x) W ≡ resolve_does n t
unfolding resolve_act
resolve-line t n k h e {x} {l} {W} o =
    let d : outcome (Ok x, l) W ≡ (resolve_act k).does t = o ∙ held-fine (resolve_act k) t (rw (eq-eqb (length k) (members_in t) e)) in
    let a : Ok x ≡ Ok (told (members_in t) (house_in t) (listed (largest_in t))) = ap (λ (u : Outcome (Result Resolution Refusal × List ℕ)). u.answer.0) d in
    let y : x ≡ told (members_in t) (house_in t) (listed (largest_in t)) = done-one a in
    let w = resolve-waiting h in
    ap (λ (W : Tables). outcome (resolution_says n x) W) (ap (λ (u : Outcome (Result Resolution Refusal × List ℕ)). u.after) d)
    ∙ ap (λ (x : Resolution). outcome (resolution_says n x) (booked_in t (listed (largest_in t)))) y
    ∙ rw (number-named (members_in t) (house_in t) (listed (largest_in t)), w.0, w.1)
  where
    done-one : {x y : Resolution} → ◌≡◌ {A = Result Resolution Refusal} (Ok x) (Ok y) → x ≡ y
    done-one e = cc

-- it is never refused where the lent list is as long as the member count
pub never-refused : (t : Tables) (k : List ℕ) (r : Refusal) → length k ≡ members_in t → {l : List ℕ} {W : Tables}
    → outcome (Err r, l) W ≡ held (resolve_act k) t → ⊥
unfolding resolve_act
never-refused t k r e o =
    let d = o ∙ held-fine (resolve_act k) t (rw (eq-eqb (length k) (members_in t) e)) in
    refused-done (ap (λ (u : Outcome (Result Resolution Refusal × List ℕ)). u.answer.0) d)
  where
    refused-done : {x : Resolution} → ◌≡◌ {A = Result Resolution Refusal} (Err r) (Ok x) → ⊥
    refused-done e = let z : ◌≡◌ {A = ℕ} 0 1 = cc in omega arith
