-- Writing a number changes its own bytes alone, and reading is from a number's own bytes alone: what was written is read.
use mathlib.Core.Path.{◌≡◌, refl, ◌∙◌}
use mathlib.Core.List.{List}
use mathlib.Core.Logic.{◌⊎◌, inl, inr}
use Prim.Native.Nat.{ℕ, zero, suc, ◌+◌, ◌*◌, ◌/◌, ◌%◌, ◌^◌, ◌≤◌, ◌<◌}
use native.Mathlib.Nat.{pow-suc, one-le-pow}
use native.Mathlib.Omega.{arith}
use lib.ListN.{length, get_or, set, length-set}
use lib.Seq.{get_or-set_same, get_or-set_other}
use Rattle.words.specs.Le.{le_at, put_at}

-- Writing keeps the length.
pub length-put : (w : ℕ) (s : List ℕ) (at x : ℕ) → length (put_at w s at x) ≡ length s
unfolding put_at
length-put zero s at x = refl
length-put (suc w) s at x = length-put w (set s at (x % 256)) (at + 1) (x / 256) ∙ length-set s at (x % 256)

-- Each byte before and behind the number stays.
pub put-outside : (w : ℕ) (s : List ℕ) (at x k : ℕ) → (k < at) ⊎ (at + w ≤ k) → get_or (put_at w s at x) k 0 ≡ get_or s k 0
unfolding put_at
put-outside zero s at x k h = refl
put-outside (suc w) s at x k (inl h) =
    put-outside w (set s at (x % 256)) (at + 1) (x / 256) k (inl (omega arith))
    ∙ get_or-set_other s at k (x % 256) 0 (λ e. omega arith)
put-outside (suc w) s at x k (inr h) =
    put-outside w (set s at (x % 256)) (at + 1) (x / 256) k (inr (omega arith))
    ∙ get_or-set_other s at k (x % 256) 0 (λ e. omega arith)

-- Where the bytes of a number are the same, so is the number.
pub same_bytes : (w : ℕ) (s t : List ℕ) (at : ℕ) → ((k : ℕ) → at ≤ k → k < at + w → get_or s k 0 ≡ get_or t k 0) → le_at w s at ≡ le_at w t at
unfolding le_at
same_bytes zero s t at h = refl
same_bytes (suc w) s t at h =
    let i = same_bytes w s t (at + 1) (λ k a b. h k (omega arith) (omega arith)) in
    omega (arith, i, h at (omega arith) (omega arith))

-- A number that was written is read.
pub read-put : (w : ℕ) (s : List ℕ) (at x : ℕ) → at + w ≤ length s → x < 256 ^ w → le_at w (put_at w s at x) at ≡ x
unfolding le_at put_at
read-put zero s at x h b = omega arith
read-put (suc w) s at x h b =
    let t = set s at (x % 256) in
    let p : x < 256 ^ w * 256 = rw pow-suc at b in
    let high = read-put w t (at + 1) (x / 256) (simp length-set (omega arith)) (omega arith) in
    let low = put-outside w t (at + 1) (x / 256) at (inl (omega arith)) ∙ get_or-set_same s at (x % 256) 0 (omega arith) in
    omega (arith, high, low)

-- w bytes hold 0,
pub zero-below : (w : ℕ) → 0 < 256 ^ w
zero-below w = one-le-pow w 256 (omega arith)

-- and are a number below 256 ^ w.
pub below : (w : ℕ) (s : List ℕ) (at : ℕ) → ((k : ℕ) → get_or s k 0 < 256) → le_at w s at < 256 ^ w
unfolding le_at
below zero s at h = omega arith
below (suc w) s at h = rw pow-suc (omega (arith, below w s (at + 1) h, h at))
