-- What is read is below 10^18: each turn over the digits of a field, and the bound.
use native.Mathlib.Omega.{arith}
use native.Mathlib.Numerals.{add-one}
use mathlib.Core.Path.{◌≡◌, refl}
use mathlib.Core.Bool.{Bool, true, false, cond}
use mathlib.Core.List.{List, [], ◌∷◌}
use Prim.Native.Nat.{ℕ, suc, ◌+◌, ◌-◌, ◌*◌, ◌^◌, ◌≤◌, ◌<◌}
use native.Mathlib.Nat.{pow-suc, pow-le-pow_right, add-zero}
use lib.Dec.{ltb, eqb}
use lib.ListN.{length, get_or, take, length-drop, drop, drop_of_length-le}
use lib.Seq.{drop-cons, take_all}
use borrow.Author.Tests.{le-ltb, ltb-false}
use Rattle.std.proofs.lemmas.Bool.Decides.{nat_tests}
use Rattle.std.specs.Char.{IsNotAsciiDigit}
use Rattle.std.specs.Prelude.{Option, Some, None}
use Rattle.numbers.specs.Numbers.{most_digits, SmallAt, SmallOf, digits_from, number_of}

pub read_step : (s : List ℕ) (i x : ℕ) → i < length s → 48 ≤ get_or s i 0 → get_or s i 0 ≤ 57
    → digits_from x (drop i s) ≡ digits_from (x * 10 + (get_or s i 0 - 48)) (drop (i + 1) s)
unfolding digits_from
read_step s i x h a b = rw (add-one, drop-cons s i 0 h, le-ltb (get_or s i 0) 48 a, le-ltb 57 (get_or s i 0) b)

pub read_other : (s : List ℕ) (i x : ℕ) → i < length s → IsNotAsciiDigit (get_or s i 0) → digits_from x (drop i s) ≡ None
unfolding digits_from
read_other s i x h a = rw (drop-cons s i 0 h) (grind (arith, nat_tests))

pub read-end : (s : List ℕ) (i x : ℕ) → length s ≤ i → digits_from x (drop i s) ≡ Some x
unfolding digits_from
read-end s i x h = rw (drop_of_length-le s h)

pub grows : (x i d : ℕ) → x < 10 ^ i → d ≤ 9 → x * 10 + d < 10 ^ (i + 1)
grows x i d h k = rw (add-one, pow-suc) (omega arith)

pub fits : (x i : ℕ) → x < 10 ^ i → i < most_digits → x * 10 + 9 < 10 ^ most_digits
fits x i h k =
    let l : i + 1 ≤ most_digits = omega arith in
    let b : 10 ^ (i + 1) ≤ 10 ^ most_digits = pow-le-pow_right (omega arith) l in
    omega (arith, grows x i 9 h (omega arith))

either-small : (k : ℕ) (p : Bool) (m n : Option ℕ) → SmallAt k m → (p ≡ false → SmallAt k n) → SmallAt k (cond p m n)
either-small k true m n g h = g
either-small k false m n g h = h refl

wider : (k l : ℕ) (n : Option ℕ) → k ≤ l → SmallAt k n → SmallAt l n
wider k l None h s = tt
wider k l (Some n) h s = let b : 10 ^ k ≤ 10 ^ l = pow-le-pow_right (omega arith) h in omega arith

from-lt : (s : List ℕ) (a k : ℕ) → a < 10 ^ k → SmallAt (k + length s) (digits_from a s)
unfolding digits_from
from-lt [] a k h = rw add-zero h
from-lt (d ∷ s) a k h =
    either-small _ (ltb d 48) None _ tt (λ e. either-small _ (ltb 57 d) None _ tt (λ f.
    let i : k + suc (length s) ≡ k + 1 + length s = omega arith in
    rw i (from-lt s (a * 10 + (d - 48)) (k + 1) (grows a k (d - 48) h (omega (arith, ltb-false 57 d f))))))

-- what is read as a number is below 10^18
pub number_lt : (s : List ℕ) → SmallOf (number_of s)
number_lt s =
    either-small most_digits (ltb (length s) 1) None _ tt (λ a. either-small most_digits (ltb most_digits (length s)) None _ tt (λ b.
    either-small most_digits (eqb (get_or s 0 0) 48) _ (digits_from 0 s) (either-small most_digits (ltb 1 (length s)) None (Some 0) tt (λ d. omega arith))
    (λ d. wider (0 + length s) most_digits (digits_from 0 s) (omega (arith, ltb-false most_digits (length s) b)) (from-lt s 0 0 (omega arith)))))

-- a part to the end is what is left
pub rest_all : (k : ℕ) (s : List ℕ) → take (length s - k) (drop k s) ≡ drop k s
rest_all k s = take_all (length s - k) (drop k s) (omega (arith, length-drop k s))
