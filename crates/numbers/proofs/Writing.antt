-- What is written: how many digits a number has, each turn that writes one, and how many bytes a text has.
use native.Mathlib.Omega.{arith}
use mathlib.Core.Path.{◌≡◌, refl, sym, ap, ◌∙◌}
use mathlib.Core.Bool.{Bool, true, false, cond}
use mathlib.Core.List.{List, [], ◌∷◌, ◌++◌}
use Prim.Native.Nat.{ℕ, max, zero, suc, ◌+◌, ◌-◌, ◌*◌, ◌/◌, ◌%◌, ◌^◌, ◌≤◌, ◌<◌}
use native.Mathlib.Nat.{pow-suc, add-zero, max-eq_left, one-le-pow}
use lib.Dec.{ltb}
use lib.ListN.{length, set, length-append}
use lib.Seq.{sets, set_comm}
use borrow.Author.Tests.{ltb-true, ltb-false}
use lib.IntN.{ℤ, pos, negsuc, nat_abs}
use Rattle.numbers.specs.Numbers.{last_digits, width_up_to, width_of, digits_of, signed_text}

by-ltb : (x y : ℕ) (P : Bool → Type 0) → (x < y → P true) → (y ≤ x → P false) → P (ltb x y)
by-ltb x y P f g = go (ltb x y) refl
  where
    go : (b : Bool) → ltb x y ≡ b → P b
    go true e = f (ltb-true x y e)
    go false e = g (ltb-false x y e)

-- w digits are w bytes
pub length_digits : (w x : ℕ) → length (last_digits w x) ≡ w
unfolding last_digits
length_digits zero x = refl
length_digits (suc w) x = simp (length-append) (omega (arith, length_digits w (x / 10)))

sets-snoc : (vs l : List ℕ) (i a : ℕ) → sets l i (vs ++ (a ∷ [])) ≡ sets (set l (i + length vs) a) i vs
sets-snoc [] l i a = rw add-zero
sets-snoc (v ∷ vs) l i a =
    let e : suc i + length vs ≡ i + suc (length vs) = omega arith in
    sets-snoc vs (set l i v) (suc i) a ∙ rw (e, set_comm l i (i + suc (length vs)) v a (λ q. omega arith))

-- one digit of those still to be written, the last
pub put_step : (l : List ℕ) (at k y : ℕ) → 0 < k → sets (set l (at + (k - 1)) (48 + y % 10)) at (last_digits (k - 1) (y / 10)) ≡ sets l at (last_digits k y)
unfolding last_digits
put_step l at k y h =
    let e : k ≡ suc (k - 1) = omega arith in
    let q = sets-snoc (last_digits (k - 1) (y / 10)) l at (48 + y % 10) in
    let f = length_digits (k - 1) (y / 10) in
    let g : sets l at (last_digits (suc (k - 1)) y) ≡ sets (set l (at + (k - 1)) (48 + y % 10)) at (last_digits (k - 1) (y / 10)) = q ∙ rw f in
    sym (ap (λ (n : ℕ). sets l at (last_digits n y)) e ∙ g)

pub put-end : (l : List ℕ) (at k y : ℕ) → k ≤ 0 → sets l at (last_digits k y) ≡ l
unfolding last_digits
put-end l at k y h = let e : k ≡ 0 = omega arith in rw e

pub width-pos : (f x : ℕ) → 1 ≤ width_up_to f x
unfolding width_up_to
width-pos zero x = omega arith
width-pos (suc f) x = by-ltb x 10 (λ w. 1 ≤ cond w 1 (suc (width_up_to f (x / 10)))) (λ l. omega arith) (λ l. omega arith)

pub width-enough : (f x : ℕ) → x < 10 ^ (suc f) → x < 10 ^ width_up_to f x
unfolding width_up_to
width-enough zero x h = h
width-enough (suc f) x h = by-ltb x 10 (λ w. x < 10 ^ cond w 1 (suc (width_up_to f (x / 10)))) (λ l. omega arith)
    (λ l. let b : x < 10 ^ (suc f) * 10 = rw pow-suc at h in
    let i = width-enough f (x / 10) (omega arith) in
    rw pow-suc (omega arith))

pub width_low : (f x : ℕ) → 0 < x → 10 ^ (width_up_to f x - 1) ≤ x
unfolding width_up_to
width_low zero x h = omega arith
width_low (suc f) x h = by-ltb x 10 (λ w. 10 ^ (cond w 1 (suc (width_up_to f (x / 10))) - 1) ≤ x) (λ l. omega arith)
    (λ l.
    let i = width_low f (x / 10) (omega arith) in
    let p = width-pos f (x / 10) in
    let e : suc (width_up_to f (x / 10)) - 1 ≡ suc (width_up_to f (x / 10) - 1) = omega arith in
    rw (e, pow-suc) (omega arith))

width-le : (f x k : ℕ) → 0 < k → x < 10 ^ k → width_up_to f x ≤ k
unfolding width_up_to
width-le zero x k h b = omega arith
width-le (suc f) x zero h b = elim h [ ]
width-le (suc f) x (suc zero) h b = by-ltb x 10 (λ w. cond w 1 (suc (width_up_to f (x / 10))) ≤ 1) (λ l. omega arith) (λ l. omega arith)
width-le (suc f) x (suc (suc k)) h b = by-ltb x 10 (λ w. cond w 1 (suc (width_up_to f (x / 10))) ≤ suc (suc k)) (λ l. omega arith)
    (λ l. let c : x < 10 ^ (suc k) * 10 = rw pow-suc at b in omega (arith, width-le f (x / 10) (suc k) (omega arith) (omega arith)))

-- ---- counting the digits

width-more : (f x n : ℕ) → n ≤ f → 10 ^ n ≤ x → n < width_up_to f x
unfolding width_up_to
width-more f x zero h b = width-pos f x
width-more zero x (suc n) h b = absurd (omega arith)
width-more (suc f) x (suc n) h b =
    let c : 10 ^ n * 10 ≤ x = rw pow-suc at b in
    let p : 0 < 10 ^ n = pow_pos n in
    by-ltb x 10 (λ w. suc n < cond w 1 (suc (width_up_to f (x / 10)))) (λ l. absurd (omega arith))
    (λ l. omega (arith, width-more f (x / 10) n (omega arith) (omega arith)))
  where
    pow_pos : (n : ℕ) → 0 < 10 ^ n
    pow_pos zero = omega arith
    pow_pos (suc n) = rw pow-suc (omega (arith, pow_pos n))

-- where 10^k is the last power that is at most x, or at most 1 for 0, x has k + 1 digits
pub width_is : (x m k : ℕ) → m ≡ max x 1 → 10 ^ k ≤ m → m < 10 * 10 ^ k → k < 20 → k + 1 ≡ width_of x
unfolding width_up_to
width_is zero m zero e h l b = refl
width_is zero m (suc k) e h l b =
    let p : 10 ^ k * 10 ≤ m = rw pow-suc at h in
    let q : 1 ≤ 10 ^ k = one-le-pow k 10 (omega arith) in
    absurd (omega arith)
width_is (suc x) m k e h l b =
    let f : m ≡ suc x = rw e (max-eq_left (omega arith)) in
    let up : suc x < 10 ^ suc k = rw (pow-suc) (omega arith) in
    omega (arith, width-more 19 (suc x) k (omega arith) (omega arith), width-le 19 (suc x) (suc k) (omega arith) up)

-- a number of k digits or fewer is written in at most k bytes
pub length-digits_of : (x k : ℕ) → 0 < k → x < 10 ^ k → length (digits_of x) ≤ k
length-digits_of x k h b = omega (arith, length_digits (width_of x) x, width-le 19 x k h b)

-- a whole number of k digits or fewer is written in at most k + 1 bytes
pub length-signed_text : (z : ℤ) (k : ℕ) → 0 < k → nat_abs z < 10 ^ k → length (signed_text z) ≤ k + 1
length-signed_text (pos n) k h b = omega (arith, length-digits_of n k h b)
length-signed_text (negsuc n) k h b = omega (arith, length-digits_of (suc n) k h b)
