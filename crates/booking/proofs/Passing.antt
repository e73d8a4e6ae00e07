-- One pass over the waiting payments with counts in a list: each payment leaves or stays by what is left of its payer's count.
use mathlib.Core.Path.{◌≡◌, refl, sym, ap, ◌∙◌}
use mathlib.Core.Logic.{◌≢◌}
use mathlib.Core.Bool.{true}
use mathlib.Core.List.{List, [], ◌∷◌}
use Prim.Native.Nat.{ℕ, zero, suc, ◌+◌, ◌-◌, ◌≤◌, ◌<◌}
use native.Mathlib.Decide.{ℕ_discrete, dec_lt}
use native.Mathlib.Numerals.{add-one}
use native.Mathlib.Omega.{arith}
use lib.ListN.{length, get_or, set, drop, length-set, get_or-eq_default}
use lib.Seq.{drop-cons, get_or-set_same, get_or-set_other}
use Rattle.rule.specs.Kernel.{Counts, sum, put}
use Rattle.rule.specs.Payment.{payer_of}
use Rattle.rule.specs.Table.{leaving, staying}
use Rattle.rule.proofs.Sums.{sum_one}
use Rattle.rule.proofs.Find.{put-at, put_other}
use Rattle.tables.specs.Sizes.{members}
use Rattle.finder.proofs.Tops.{payer-under}
use Rattle.booking.specs.Booking.{listed}
use Rattle.booking.specs.Steps.{Passes}

-- the payment at place i is the next
pub drop-turn : (p : List ℕ) (i : ℕ) → i < length p → drop i p ≡ get_or p i 0 ∷ drop (i + 1) p
drop-turn p i h = rw (add-one, drop-cons p i 0)

-- a store into the list is a change of the counts
pub listed-set : (l : List ℕ) (s v : ℕ) → s < length l → listed (set l s v) ≡ put (listed l) s v
listed-set l s v h = λ j i. at i j
  where
    at : (i : ℕ) → get_or (set l s v) i 0 ≡ put (listed l) s v i
    at i = elim (ℕ_discrete i s) [
      | yes e ↦ rw (e, put-at) (get_or-set_same l s v 0 h)
      | no e ↦ rw (put_other (listed l) s v i e) (get_or-set_other l s i v 0 e)
    ]

-- ---- a payment whose payer's count is 0

module _ (z : Counts) (w : ℕ) (ws : List ℕ) (e : z (payer_of w) ≡ 0) where
  -- does not leave,
  pub leaving-none : leaving z (w ∷ ws) ≡ leaving z ws
  leaving-none = ap (λ k. elim k as (λ _. List ℕ) [ zero ↦ leaving z ws | suc j ↦ w ∷ leaving (put z (payer_of w) j) ws ]) e

  -- and stays
  pub staying-none : staying z (w ∷ ws) ≡ w ∷ staying z ws
  staying-none = ap (λ k. elim k as (λ _. List ℕ) [ zero ↦ w ∷ staying z ws | suc j ↦ staying (put z (payer_of w) j) ws ]) e

-- ---- a payment whose payer's count is not 0

module _ (l : List ℕ) (w : ℕ) (ws : List ℕ) (seat : payer_of w < length l) (e : get_or l (payer_of w) 0 ≢ 0) where
  one_more : listed l (payer_of w) ≡ suc (get_or l (payer_of w) 0 - 1)
  one_more = omega arith

  -- leaves, with its payer's count down by one,
  pub leaving-one : leaving (listed l) (w ∷ ws) ≡ w ∷ leaving (listed (set l (payer_of w) (get_or l (payer_of w) 0 - 1))) ws
  leaving-one =
      ap (λ k. elim k as (λ _. List ℕ) [ zero ↦ leaving (listed l) ws | suc j ↦ w ∷ leaving (put (listed l) (payer_of w) j) ws ]) one_more
      ∙ ap (λ z. w ∷ leaving z ws) (sym (listed-set l (payer_of w) (get_or l (payer_of w) 0 - 1) seat))

  -- and does not stay
  pub staying-one : staying (listed l) (w ∷ ws) ≡ staying (listed (set l (payer_of w) (get_or l (payer_of w) 0 - 1))) ws
  staying-one =
      ap (λ k. elim k as (λ _. List ℕ) [ zero ↦ w ∷ staying (listed l) ws | suc j ↦ staying (put (listed l) (payer_of w) j) ws ]) one_more
      ∙ ap (λ z. staying z ws) (sym (listed-set l (payer_of w) (get_or l (payer_of w) 0 - 1) seat))

-- ---- so it passes by the counts

module _ (l : List ℕ) (w : ℕ) (long : length l ≡ members) (e : get_or l (payer_of w) 0 ≢ 0) where
  seat : payer_of w < length l
  seat = rw long (payer-under w)

  -- it leaves where its payer's count is not 0, which then is one less,
  pub passes-one : Passes w l (set l (payer_of w) (get_or l (payer_of w) 0 - 1)) true
  passes-one = record { gone = λ ws. leaving-one l w ws seat e; kept = λ ws. staying-one l w ws seat e }

  fewer : sum (length l) (listed l) ≡ sum (length l) (listed (set l (payer_of w) (get_or l (payer_of w) 0 - 1))) + 1
  fewer = sum_one (length l) (listed l) (listed (set l (payer_of w) (get_or l (payer_of w) 0 - 1))) (payer_of w) 1 seat
      (rw (get_or-set_same l (payer_of w) (get_or l (payer_of w) 0 - 1) 0 seat) (omega arith))
      (λ i k ne. sym (get_or-set_other l (payer_of w) i (get_or l (payer_of w) 0 - 1) 0 ne))

  -- it is one of those still to leave,
  pub one-of-more : {more : ℕ} → more ≡ sum (length l) (listed l) → 1 ≤ more
  one-of-more m = omega (arith, fewer)

  -- which then are one fewer
  pub one_fewer : {more : ℕ} → more ≡ sum (length l) (listed l)
      → more - 1 ≡ sum (length (set l (payer_of w) (get_or l (payer_of w) 0 - 1))) (listed (set l (payer_of w) (get_or l (payer_of w) 0 - 1)))
  one_fewer m = rw (length-set l (payer_of w) (get_or l (payer_of w) 0 - 1)) (omega (arith, fewer))

-- ---- at the end of the pass

none-counted : (n : ℕ) (z : Counts) → sum n z ≡ 0 → (i : ℕ) → i < n → z i ≡ 0
none-counted zero z e i h = absurd (omega arith)
none-counted (suc n) z e i h = elim (ℕ_discrete i n) [
  | yes q ↦ rw q (omega arith)
  | no q ↦ none-counted n z (omega arith) i (omega arith)
]

no-count : (l : List ℕ) (i : ℕ) → sum (length l) (listed l) ≡ 0 → listed l i ≡ 0
no-count l i e = elim (dec_lt i (length l)) [
  | yes h ↦ none-counted (length l) (listed l) e i h
  | no h ↦ get_or-eq_default l 0 {n = i} (omega arith)
]

-- where no more are to leave, none leaves,
pub none_left : (l ws : List ℕ) → sum (length l) (listed l) ≡ 0 → leaving (listed l) ws ≡ []
none_left l [] e = refl
none_left l (w ∷ ws) e = leaving-none (listed l) w ws (no-count l (payer_of w) e) ∙ none_left l ws e

-- and where none leaves, all stay
pub all_stay : (z : Counts) (ws : List ℕ) → leaving z ws ≡ [] → staying z ws ≡ ws
all_stay z [] e = refl
all_stay z (w ∷ ws) e = go (z (payer_of w)) e (all_stay z ws)
  where
    go : (k : ℕ) → ◌≡◌ {A = List ℕ} (elim k [ zero ↦ leaving z ws | suc j ↦ w ∷ leaving (put z (payer_of w) j) ws ]) []
        → (leaving z ws ≡ [] → staying z ws ≡ ws)
        → ◌≡◌ {A = List ℕ} (elim k [ zero ↦ w ∷ staying z ws | suc j ↦ staying (put z (payer_of w) j) ws ]) (w ∷ ws)
    go zero e ih = ap (λ r. w ∷ r) (ih e)
    go (suc k) e ih = absurd (omega (arith, ap length e))

-- for goals on the places of a payer
pub ruleset seats = (payer-under)
