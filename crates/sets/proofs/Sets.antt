-- The ones of a set's number are as many as stand in it, and its trailing zeros tell the lowest.
use mathlib.Core.Path.{◌≡◌, refl, sym, ap}
use mathlib.Core.Bool.{Bool, true, false, cond}
use Prim.Native.Nat.{ℕ, zero, suc, ◌+◌, ◌*◌, ◌/◌, ◌%◌, ◌^◌, ◌≤◌, ◌<◌}
use native.Mathlib.Decide.{ℕ_discrete}
use native.Mathlib.Nat.{one-mul, pow-suc}
use native.Mathlib.Omega.{arith}
use borrow.Author.Tests.{eq-eqb, ne_eqb}
use lib.Dec.{eqb}
use lib.Pow.{pow_pos}
use lib.Bits.{block_half, block_odd, shifted_half, shifted_even}
use lib.Count.{ones, ones_cat, ones-ones, count_trailing_zeros, under}
use Rattle.sets.specs.Sets.{set_of, size_of, lowest_of, lowest_in}

module _ (f : ℕ → Bool) where
  -- the set of n members is below 2^n
  pub set_below : (n : ℕ) → set_of n f < 2 ^ n
  unfolding set_of
  set_below zero = omega arith
  set_below (suc n) = go (f n) (set_below n)
    where
      go : (b : Bool) → set_of n f < 2 ^ n → set_of n f + cond b (2 ^ n) 0 < 2 ^ suc n
      go true h = rw pow-suc (omega arith)
      go false h = rw pow-suc (omega arith)

  -- the ones are as many as stand in it
  pub set-size : (n : ℕ) → ones (set_of n f) ≡ size_of n f
  unfolding set_of size_of ones
  set-size zero = refl
  set-size (suc n) = go (f n) (set-size n) (set_below n)
    where
      go : (b : Bool) → ones (set_of n f) ≡ size_of n f → set_of n f < 2 ^ n → ones (set_of n f + cond b (2 ^ n) 0) ≡ size_of n f + cond b 1 0
      go true e h =
          let c : ones (2 ^ n + set_of n f) ≡ ones 1 + ones (set_of n f) = rw one-mul at (ones_cat n 1 (set_of n f) h) in
          let s : set_of n f + 2 ^ n ≡ 2 ^ n + set_of n f = omega arith in
          rw s (omega (arith, ones-ones 1))
      go false e h = let s : set_of n f + 0 ≡ set_of n f = omega arith in rw s (omega arith)

-- what stands above a number that is not 0 does not change its trailing zeros
under_same : (d s t : ℕ) → (d ≡ 0 → s ≡ t) → under d s ≡ under d t
under_same zero s t h = ap suc (h refl)
under_same (suc d) s t h = refl

trailing-cat : (k a m r : ℕ) → 0 < r → r < 2 ^ a → count_trailing_zeros k (m * 2 ^ a + r) ≡ count_trailing_zeros k r
unfolding count_trailing_zeros
trailing-cat zero a m r p h = refl
trailing-cat (suc k) zero m r p h = absurd (omega arith)
trailing-cat (suc k) (suc a) m r p h =
    let q : r < 2 ^ a * 2 = rw pow-suc at h in
    rw (block_odd, block_half) (under_same (r % 2) _ _ (λ e. trailing-cat k a m (r / 2) (omega arith) (omega arith)))

trailing-pow : (k a : ℕ) → a < k → count_trailing_zeros k (2 ^ a) ≡ a
unfolding count_trailing_zeros
trailing-pow zero a h = absurd (omega arith)
trailing-pow (suc k) zero h = refl
trailing-pow (suc k) (suc a) h =
    let e : 2 ^ suc a % 2 ≡ 0 = rw one-mul at (shifted_even 1 a) in
    let f : 2 ^ suc a / 2 ≡ 2 ^ a = simp one-mul at (shifted_half 1 a) in
    rw (e, f) (ap suc (trailing-pow k a (omega arith)))

-- l is the lowest of the set s: none if s is empty, and else the trailing zeros stand below it
record Lowest (s l : ℕ) : Type 0 where
  none : s ≡ 0 → l ≡ 0
  some : 0 < s → count_trailing_zeros 64 s + 1 ≡ l

lowest-next : (n s l : ℕ) (b : Bool) → n < 64 → s < 2 ^ n → Lowest s l → Lowest (s + cond b (2 ^ n) 0) (cond (eqb l 0) (cond b (suc n) 0) l)
lowest-next n s l b h q r = elim (ℕ_discrete s 0) [ yes e ↦ rw (e, eq-eqb l 0 (r.none e)) (first b) | no e ↦ later b e (r.some (omega arith)) ]
  where
    first : (b : Bool) → Lowest (0 + cond b (2 ^ n) 0) (cond b (suc n) 0)
    first true = record {
      none = λ e. absurd (omega (arith, pow_pos n));
      some = λ e. let z : 0 + 2 ^ n ≡ 2 ^ n = omega arith in rw z (omega (arith, trailing-pow 64 n h));
    }
    first false = record { none = λ e. refl; some = λ e. absurd (omega arith) }

    later : (b : Bool) → (s ≡ 0 → ⊥) → count_trailing_zeros 64 s + 1 ≡ l → Lowest (s + cond b (2 ^ n) 0) (cond (eqb l 0) (cond b (suc n) 0) l)
    later b ne z = rw (ne_eqb l 0 (λ e. omega arith)) (go b)
      where
        go : (b : Bool) → Lowest (s + cond b (2 ^ n) 0) l
        go true = record {
          none = λ e. absurd (omega arith);
          some = λ e.
              let c : count_trailing_zeros 64 (2 ^ n + s) ≡ count_trailing_zeros 64 s = rw one-mul at (trailing-cat 64 n 1 s (omega arith) q) in
              let t : s + 2 ^ n ≡ 2 ^ n + s = omega arith in
              rw (t, c) z;
        }
        go false = let t : s + 0 ≡ s = omega arith in rw t (record { none = λ e. absurd (ne e); some = λ e. z })

lowest : (f : ℕ → Bool) (n : ℕ) → n ≤ 64 → Lowest (set_of n f) (lowest_of n f)
unfolding set_of lowest_of
lowest f zero h = record { none = λ e. refl; some = λ e. absurd (omega arith) }
lowest f (suc n) h = lowest-next n (set_of n f) (lowest_of n f) (f n) (omega arith) (set_below f n) (lowest f n (omega arith))

-- the trailing zeros tell the lowest that stands in it
pub set-lowest : (f : ℕ → Bool) (n : ℕ) → n ≤ 64 → lowest_in (set_of n f) ≡ lowest_of n f
set-lowest f n h = elim (ℕ_discrete (set_of n f) 0) [
  | yes e ↦ rw (eq-eqb (set_of n f) 0 e) (sym ((lowest f n h).none e))
  | no e ↦ rw (ne_eqb (set_of n f) 0 e) ((lowest f n h).some (omega arith))
]
