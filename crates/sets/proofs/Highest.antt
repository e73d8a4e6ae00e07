-- A set read from its highest member down, doubling and adding, is the set's number.
use mathlib.Core.Path.{◌≡◌, refl, ap, ◌∙◌}
use mathlib.Core.Bool.{Bool, true, false, cond}
use Prim.Native.Nat.{ℕ, zero, suc, ◌+◌, ◌*◌, ◌-◌, ◌^◌, ◌≤◌, ◌<◌}
use native.Mathlib.Nat.{pow-suc}
use native.Mathlib.Omega.{arith}
use lib.Pow.{pow_mono}
use Rattle.sets.specs.Sets.{set_of}
use Rattle.sets.proofs.Sets.{set_below}

-- who stands in a set is all that counts
pub set-cong : (n : ℕ) (f g : ℕ → Bool) → ((i : ℕ) → i < n → f i ≡ g i) → set_of n f ≡ set_of n g
unfolding set_of
set-cong zero f g e = refl
set-cong (suc n) f g e = rw (set-cong n f g (λ i h. e i (omega arith)), e n (omega arith))

lowest-apart : (m : ℕ) (f : ℕ → Bool) → set_of (suc m) f ≡ set_of m (λ k. f (suc k)) * 2 + cond (f 0) 1 0
unfolding set_of
lowest-apart zero f = refl
lowest-apart (suc m) f = go (f (suc m)) (cond (f 0) 1 0) (set_of (suc m) f) (set_of m (λ k. f (suc k))) (lowest-apart m f)
  where
    go : (b : Bool) (x s t : ℕ) → s ≡ t * 2 + x → s + cond b (2 ^ suc m) 0 ≡ (t + cond b (2 ^ m) 0) * 2 + x
    go true x s t e = rw pow-suc (omega arith)
    go false x s t e = omega arith

-- the loop's invariant: of the n members those from i on are read
pub record Read (n : ℕ) (f : ℕ → Bool) (set i : ℕ) : Type 0 where
  pub within : i ≤ n
  pub done : set ≡ set_of (n - i) (λ k. f (i + k))

module _ {n : ℕ} {f : ℕ → Bool} where
  -- the loop starts,
  pub read-start : Read n f 0 n
  unfolding set_of
  read-start = let e : n - n ≡ 0 = omega arith in record { within = omega arith; done = rw e }

  module _ {set i : ℕ} (r : Read n f set i) where
    -- has room to double,
    pub read-room : n ≤ 64 → 0 < i → set < 9223372036854775808
    read-room h q =
        let l : 2 ^ (n - i) ≤ 2 ^ 63 = pow_mono {i = n - i} {j = 63} (omega arith) in
        omega (arith, r.done, set_below (λ k. f (i + k)) (n - i))

    read-turn : (b : Bool) → 0 < i → f (i - 1) ≡ b → Read n f (set * 2 + cond b 1 0) (i - 1)
    read-turn b q e =
        let d : n - (i - 1) ≡ suc (n - i) = omega (arith, r.within) in
        let z : i - 1 + 0 ≡ i - 1 = omega arith in
        record {
          within = omega (arith, r.within);
          done = rw (d, lowest-apart (n - i) (λ k. f (i - 1 + k)), z, e)
              (ap (λ s. s * 2 + cond b 1 0)
              (r.done ∙ set-cong (n - i) (λ k. f (i + k)) (λ k. f (i - 1 + suc k)) (λ k h. let w : i + k ≡ i - 1 + suc k = omega arith in ap f w)));
        }

    -- reads one member more, who stands in the set,
    pub read-in : 0 < i → f (i - 1) ≡ true → Read n f (set * 2 + 1) (i - 1)
    read-in q e = read-turn true q e

    -- or does not,
    pub read_out : 0 < i → f (i - 1) ≡ false → Read n f (set * 2) (i - 1)
    read_out q e = let z : set * 2 + 0 ≡ set * 2 = omega arith in rw z at (read-turn false q e)

    -- and has read them all at the end
    pub read-end : i ≡ 0 → set ≡ set_of n f
    read-end e = let d : n - 0 ≡ n = omega arith in r.done ∙ rw (e, d) (set-cong n (λ k. f (0 + k)) f (λ k h. let w : 0 + k ≡ k = omega arith in ap f w))
