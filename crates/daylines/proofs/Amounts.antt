-- What is settled at once stays in its ranges: no more payments than wait, and each of at most 10^12.
use mathlib.Core.Path.{◌≡◌, refl, ap}
use mathlib.Core.Bool.{Bool, true, false, cond}
use mathlib.Core.List.{List, [], ◌∷◌}
use Prim.Native.Nat.{ℕ, zero, suc, ◌+◌, ◌-◌, ◌*◌, ◌≤◌, ◌<◌}
use native.Mathlib.Omega.{arith}
use borrow.Author.Tests.{not-false, eqb-false}
use lib.Dec.{eqb}
use lib.ListN.{length, get_or}
use lib.Seq.{take_all}
use Rattle.rule.specs.Kernel.{Counts, sum, Under}
use Rattle.rule.specs.Payment.{amount_of}
use Rattle.rule.specs.Queue.{total, worth}
use Rattle.rule.specs.House.{House, waits, sent}
use Rattle.rule.specs.Verdict.{verdict}
use Rattle.rule.proofs.Sums.{sum_mono}
use Rattle.rule.proofs.Bounds.{worth-mono}
use Rattle.sets.specs.Sets.{size_of, lowest_of}
use Rattle.tables.specs.Sizes.{places, most_amount}
use Rattle.tables.specs.Layout.{Tables, members_in, words_in, house_in}
use Rattle.tables.specs.Holds.{Payment, Holds}
use Rattle.tables.proofs.Houses.{queue-each, holds-payment, waiting-sum}
use Rattle.answers.specs.Codes.{first, is_member}
use Rattle.settling.specs.Release.{release_act}
use Rattle.std.specs.Prelude.{Ok}
use Rattle.answers.proofs.Judging.{first_fine, member-in}

total-small : (l : List ℕ) → ((k : ℕ) → k < length l → amount_of (get_or l k 0) ≤ most_amount) → total amount_of l ≤ length l * most_amount
total-small [] f = omega arith
total-small (w ∷ ws) f = omega (arith, f 0 (omega arith), total-small ws (λ k h. f (suc k) (omega arith)))

sum-scaled : (n : ℕ) (f g : Counts) → ((i : ℕ) → i < n → f i ≤ g i * most_amount) → sum n f ≤ sum n g * most_amount
sum-scaled zero f g h = omega arith
sum-scaled (suc n) f g h = omega (arith, sum-scaled n f g (λ i l. h i (omega arith)), h n (omega arith))

module _ {T : Tables} (h : Holds T) where
  -- each payment in a queue is one of at most 10^12,
  pub queued-small : (i k : ℕ) → k < waits (house_in T) i → amount_of (get_or ((house_in T).queue i) k 0) ≤ most_amount
  queued-small i k l = (queue-each (Payment (members_in T)) i (words_in T) (holds-payment h) k l).0.small

  sent-small : (z : Counts) (i : ℕ) → z i ≤ waits (house_in T) i → sent (house_in T) z i ≤ waits (house_in T) i * most_amount
  unfolding sent worth
  sent-small z i l =
      let q = (house_in T).queue i in
      let e : worth amount_of q (length q) ≡ total amount_of q = ap (total amount_of) (take_all (length q) q (omega arith)) in
      omega (arith, worth-mono amount_of q (z i) (length q) l, e, total-small q (queued-small i))

  -- so that a set's payments are few,
  pub counts-few : (z : Counts) → Under (members_in T) z (waits (house_in T)) → sum (members_in T) z ≤ places
  counts-few z u = omega (arith, sum_mono (members_in T) z (waits (house_in T)) u, waiting-sum h, h.counters.room)

  -- and their sum is small
  pub sum-small : (z : Counts) → Under (members_in T) z (waits (house_in T)) → sum (members_in T) (sent (house_in T) z) ≤ places * most_amount
  sum-small z u =
      omega (arith, sum-scaled (members_in T) (sent (house_in T) z) (waits (house_in T)) (λ i l. sent-small z i (u i l)), waiting-sum h, h.counters.room)

-- an accepted release is of a member with payments waiting
pub record Heads (T : Tables) (m : ℕ) : Type 0 where
  pub one : 1 ≤ m
  pub within : m ≤ members_in T
  pub waiting : 0 < waits (house_in T) (m - 1)

pub release-heads : {T : Tables} {m : ℕ} → first ((release_act m).tests T) ≡ Ok tt → Heads T m
unfolding release_act
release-heads {T} {m} e =
    let f = first_fine ((release_act m).tests T) e in
    let j = member-in T.counters m (not-false (is_member T.counters m) f.0) in
    record { one = j.0; within = j.1; waiting = some (waits (house_in T) (m - 1)) (eqb-false (waits (house_in T) (m - 1)) 0 f.1.0) }
  where
    some : (w : ℕ) → (w ≡ 0 → ⊥) → 0 < w
    some zero f = absurd (f refl)
    some (suc w) f = omega arith

-- ---- what is told of a resolution

pub verdict-small : (n : ℕ) (H : House) (z : Counts) → verdict n H z ≤ 3
verdict-small n H z = go (eqb (sum n (waits H)) 0) (eqb (sum n z) 0) (eqb (sum n z) (sum n (waits H)))
  where
    go : (x y w : Bool) → cond x 0 (cond y 3 (cond w 1 2)) ≤ 3
    go true y w = omega arith
    go false true w = omega arith
    go false false true = omega arith
    go false false false = omega arith

pub size_small : (f : ℕ → Bool) (n : ℕ) → size_of n f ≤ n
unfolding size_of
size_small f zero = omega arith
size_small f (suc n) = go (f n) (size_small f n)
  where
    go : (b : Bool) → size_of n f ≤ n → size_of n f + cond b 1 0 ≤ suc n
    go true h = omega arith
    go false h = omega arith

pub lowest-small : (f : ℕ → Bool) (n : ℕ) → lowest_of n f ≤ n
unfolding lowest_of
lowest-small f zero = omega arith
lowest-small f (suc n) = go (eqb (lowest_of n f) 0) (f n) (lowest-small f n)
  where
    go : (x y : Bool) → lowest_of n f ≤ n → cond x (cond y (suc n) 0) (lowest_of n f) ≤ suc n
    go true true h = omega arith
    go true false h = omega arith
    go false y h = omega arith
