-- The computed set is the largest allowed set: taking one off a short member keeps every allowed set inside, and where none is short
-- the set itself is allowed.
use mathlib.Core.Path.{◌≡◌, refl}
use mathlib.Core.Bool.{Bool, true, false}
use Prim.Native.Nat.{ℕ, zero, suc, ◌≤◌, ◌<◌}
use native.Mathlib.Omega.{arith}
use lib.Dec.{ltb}
use lib.IntN.{pos}
use borrow.Author.Tests.{ltb-true, ltb-false}
use Rattle.rule.specs.Kernel.{Counts, none, lower, sum}
use Rattle.rule.specs.Workings.Law.{Around}
use Rattle.rule.specs.House.{House, waits, booked, cover, Covered, LargestSet, Sound}
use Rattle.rule.specs.Resolution.{short, first_of, trimmed, resolution}
use Rattle.rule.proofs.Ints.{lt_z-true, lt_z-false, nonneg_of, nonneg-is}
use Rattle.rule.proofs.Sums.{sum-strict, sum-at}
use Rattle.rule.proofs.Kernel.{take-off}
use Rattle.rule.proofs.Find.{around-start, around-lower, around-done, lower-le, lower-at}
use Rattle.rule.proofs.Cover.{covered-lawful, none_allowed}

-- ---- the first of which a test is true

pub first-true : (n : ℕ) (f : ℕ → Bool) → first_of n f < n → f (first_of n f) ≡ true
unfolding first_of
first-true zero f h = absurd (omega arith)
first-true (suc n) f h = go (f 0) refl (first-true n (λ i. f (suc i))) h
  where
    rest : ℕ
    rest = first_of n (λ i. f (suc i))

    go : (b : Bool) → f 0 ≡ b → (rest < n → f (suc rest) ≡ true) → elim b [ true ↦ 0 | false ↦ suc rest ] < suc n
        → f (elim b [ true ↦ 0 | false ↦ suc rest ]) ≡ true
    go true e ih l = e
    go false e ih l = ih (omega arith)

pub first-none : (n : ℕ) (f : ℕ → Bool) → n ≤ first_of n f → (i : ℕ) → i < n → f i ≡ false
unfolding first_of
first-none zero f h i l = absurd (omega arith)
first-none (suc n) f h i l = go (f 0) refl (first-none n (λ j. f (suc j))) h i l
  where
    rest : ℕ
    rest = first_of n (λ j. f (suc j))

    go : (b : Bool) → f 0 ≡ b → (n ≤ rest → (j : ℕ) → j < n → f (suc j) ≡ false) → suc n ≤ elim b [ true ↦ 0 | false ↦ suc rest ] → (j : ℕ)
        → j < suc n → f j ≡ false
    go true e ih g j k = absurd (omega arith)
    go false e ih g zero k = e
    go false e ih g (suc j) k = ih (omega arith) j (omega arith)

-- ---- short or covered

module _ (n : ℕ) (H : House) (z : Counts) (i : ℕ) where
  pub short-uncovered : short n H z i ≡ true → ¬ Covered n H i z
  short-uncovered e c = omega (arith, lt_z-true (cover (booked n H z) i) (pos 0) e, nonneg-is (cover (booked n H z) i) c.cover)

  pub else-covered : short n H z i ≡ false → Covered n H i z
  else-covered e = record { cover = nonneg_of (cover (booked n H z) i) (omega (arith, lt_z-false (cover (booked n H z) i) (pos 0) e)) }

-- ---- down to the largest set

module _ {n : ℕ} {H : House} (ok : Sound n H) where
  -- a short member has a payment in, and less is around with one off
  less : (z : Counts) (j : ℕ) → Around n (Covered n H) (waits H) z → j < n → short n H z j ≡ true → sum n (lower z j) < sum n z
  less z j r h e =
      let some : 0 < z j = take-off (covered-lawful n H) z j (none_allowed ok) (r.above none (none_allowed ok)) h (short-uncovered n H z j e) in
      sum-strict n (lower z j) z j (λ i k. lower-le z j i) h (omega (arith, lower-at z j))

  -- with nothing in, none is short
  nothing-in : (z : Counts) → sum n z ≤ 0 → (i : ℕ) → i < n → Covered n H i z
  nothing-in z s i h = (covered-lawful n H).stays i none z h (λ j k. omega arith) (omega (arith, sum-at n z i h)) ((none_allowed ok).holds i h)

  trimmed-largest : (k : ℕ) (z : Counts) → Around n (Covered n H) (waits H) z → sum n z ≤ k → LargestSet n H (trimmed n H k z)
  unfolding trimmed
  trimmed-largest zero z r s = around-done r (nothing-in z s)
  trimmed-largest (suc k) z r s = go (ltb j n) refl (trimmed-largest k)
    where
      j : ℕ
      j = first_of n (short n H z)

      go : (b : Bool) → ltb j n ≡ b → ((y : Counts) → Around n (Covered n H) (waits H) y → sum n y ≤ k → LargestSet n H (trimmed n H k y))
          → LargestSet n H (elim b [ true ↦ trimmed n H k (lower z j) | false ↦ z ])
      go true e ih =
          let h : j < n = ltb-true j n e in
          let t = first-true n (short n H z) h in
          ih (lower z j) (around-lower (covered-lawful n H) j r h (short-uncovered n H z j t)) (omega (arith, less z j r h t))
      go false e ih = around-done r (λ i h. else-covered n H z i (first-none n (short n H z) (ltb-false j n e) i h))

  -- the computed set is the largest allowed set
  pub resolution-largest : LargestSet n H (resolution n H)
  unfolding resolution
  resolution-largest = trimmed-largest (sum n (waits H)) (waits H) around-start (omega arith)
