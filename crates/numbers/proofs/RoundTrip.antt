-- What is written is read back: the digits of x make x, and none of them leads with 0 or `-`.
use native.Mathlib.Omega.{arith}
use mathlib.Core.Path.{◌≡◌, refl, ap, ◌∙◌}
use mathlib.Core.List.{List, [], ◌∷◌, ◌++◌, append_assoc, append-nil}
use Prim.Native.Nat.{ℕ, zero, suc, ◌+◌, ◌-◌, ◌*◌, ◌/◌, ◌%◌, ◌^◌, ◌≤◌, ◌<◌}
use native.Mathlib.Nat.{pow-suc}
use lib.ListN.{length, get_or, get_or-append}
use borrow.Author.Tests.{le-ltb, ne_eqb}
use lib.IntN.{ℤ, pos, negsuc, nat_abs}
use Rattle.std.specs.Prelude.{Some}
use Rattle.numbers.specs.Numbers.{most_digits, from_zero, below_zero, signed_of, digits_from, number_of, last_digits, width_up_to, width_of, digits_of, signed_text}
use Rattle.numbers.proofs.Writing.{length_digits, length-digits_of, width-pos, width-enough, width_low}

from-digits : (w x : ℕ) (t : List ℕ) → x < 10 ^ w → digits_from 0 (last_digits w x ++ t) ≡ digits_from x t
unfolding digits_from last_digits
from-digits zero x t h = let e : x ≡ 0 = omega arith in rw e
from-digits (suc w) x t h =
    let b : x < 10 ^ w * 10 = rw pow-suc at h in
    let q : x / 10 < 10 ^ w = omega arith in
    let lo : 48 ≤ 48 + x % 10 = omega arith in
    let hi : 48 + x % 10 ≤ 57 = omega arith in
    let v : x / 10 * 10 + (48 + x % 10 - 48) ≡ x = omega arith in
    rw append_assoc (from-digits w (x / 10) ((48 + x % 10) ∷ t) q ∙ rw (le-ltb (48 + x % 10) 48 lo, le-ltb 57 (48 + x % 10) hi, v))

lead : (w x : ℕ) → 10 ^ w ≤ x → x < 10 ^ (suc w) → 49 ≤ get_or (last_digits (suc w) x) 0 0
unfolding last_digits
lead zero x a b = omega arith
lead (suc w) x a b =
    let c : 10 ^ w * 10 ≤ x = rw pow-suc at a in
    let d : x < 10 ^ (suc w) * 10 = rw pow-suc at b in
    let n : 0 < length (last_digits (suc w) (x / 10)) = omega (arith, length_digits (suc w) (x / 10)) in
    rw (get_or-append (last_digits (suc w) (x / 10)) ((48 + x % 10) ∷ []) 0 0 n) (lead w (x / 10) (omega arith) (omega arith))

-- a number below 10^18 is read back
pub round_trip : (x : ℕ) → x < 10 ^ most_digits → number_of (digits_of x) ≡ Some x
unfolding digits_from last_digits width_up_to
round_trip zero h = refl
round_trip (suc n) h =
    let x : ℕ = suc n in
    let p = width-pos 19 x in
    let l = length_digits (width_of x) x in
    let m = length-digits_of x most_digits (omega arith) h in
    let e : width_of x ≡ suc (width_of x - 1) = omega arith in
    let up : x < 10 ^ width_of x = width-enough 19 x (omega arith) in
    let f : 49 ≤ get_or (last_digits (suc (width_of x - 1)) x) 0 0 = lead (width_of x - 1) x (width_low 19 x (omega arith)) (rw e at up) in
    let g : 49 ≤ get_or (digits_of x) 0 0 = rw e f in
    let a : 1 ≤ length (digits_of x) = omega arith in
    rw (le-ltb (length (digits_of x)) 1 a, le-ltb most_digits (length (digits_of x)) m, ne_eqb (get_or (digits_of x) 0 0) 48 (λ q. omega arith))
    (rw append-nil at (from-digits (width_of x) x [] up))

-- the first byte is a digit
head-digit : (w x : ℕ) → 48 ≤ get_or (last_digits (suc w) x) 0 0
unfolding last_digits
head-digit zero x = omega arith
head-digit (suc w) x =
    let n : 0 < length (last_digits (suc w) (x / 10)) = omega (arith, length_digits (suc w) (x / 10)) in
    rw (get_or-append (last_digits (suc w) (x / 10)) ((48 + x % 10) ∷ []) 0 0 n) (head-digit w (x / 10))

no_sign : (n : ℕ) → get_or (digits_of n) 0 0 ≡ 45 → ⊥
no_sign n q =
    let p = width-pos 19 n in
    let e : width_of n ≡ suc (width_of n - 1) = omega arith in
    let h = head-digit (width_of n - 1) n in
    let g : 48 ≤ get_or (digits_of n) 0 0 = rw e h in
    omega arith

plus-text : (n : ℕ) → n < 10 ^ most_digits → signed_of (digits_of n) ≡ Some (pos n)
plus-text n h =
    let r = round_trip n h in
    rw (ne_eqb (get_or (digits_of n) 0 0) 45 (no_sign n)) (ap from_zero r)

-- and so is a whole number of that magnitude
pub signed-trip : (z : ℤ) → nat_abs z < 10 ^ most_digits → signed_of (signed_text z) ≡ Some z
signed-trip (pos n) h = plus-text n h
signed-trip (negsuc n) h = ap below_zero (round_trip (suc n) h)
