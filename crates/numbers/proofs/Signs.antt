-- Signs: from a number to a whole number, and how large a whole number is that was read.
use native.Mathlib.Omega.{arith}
use mathlib.Core.Path.{◌≡◌, refl, sym, ap, ◌∙◌, subst}
use mathlib.Core.Bool.{Bool, true, false, cond}
use mathlib.Core.List.{List}
use Prim.Native.Nat.{ℕ, zero, suc, ◌-◌, ◌^◌, ◌<◌}
use lib.Dec.{eqb}
use lib.ListN.{length, get_or, take, drop}
use borrow.Author.Tests.{eq-eqb, ne_eqb}
use lib.IntN.{ℤ, pos, negsuc, ◌-ℤ◌, nat_abs}
use Rattle.std.proofs.lemmas.Int.{ints}
use mir.Syntax.{w64}
use mir.Val.{SFits, to_z, of_z}
use Rattle.std.specs.Prelude.{Option, Some, None}
use Rattle.numbers.specs.Numbers.{most_digits, SmallSigned, SmallOf, from_zero, below_zero, signed_of, number_of}
use Rattle.numbers.proofs.Reading.{number_lt, rest_all}

-- a number that was read is below 10^18,
pub value_lt : (s : List ℕ) (x : ℕ) → number_of s ≡ Some x → x < 10 ^ most_digits
value_lt s x e = subst SmallOf e (number_lt s)

-- and a whole number is it, or its negative
pub plus_read : (s : List ℕ) (x : ℕ) → (get_or s 0 0 ≡ 45 → ⊥) → number_of s ≡ Some x → Some (to_z w64 x) ≡ signed_of s
plus_read s x h e =
    let l = value_lt s x e in
    rw (ne_eqb (get_or s 0 0) 45 h, e) (ap Some (omega (arith, ints)))

pub minus_read : (s : List ℕ) (x : ℕ) → get_or s 0 0 ≡ 45 → (x ≡ 0 → ⊥) → number_of (take (length s - 1) (drop 1 s)) ≡ Some x
    → Some (to_z w64 (of_z w64 (pos 0 -ℤ to_z w64 x))) ≡ signed_of s
minus_read s zero h n e = absurd (n refl)
minus_read s (suc m) h n e =
    let l = value_lt (take (length s - 1) (drop 1 s)) (suc m) e in
    let d : number_of (drop 1 s) ≡ Some (suc m) = ap number_of (sym (rest_all 1 s)) ∙ e in
    rw (eq-eqb (get_or s 0 0) 45 h, d) (ap Some (omega (arith, ints)))

pub held_small : (z : ℤ) → nat_abs z < 10 ^ most_digits → SFits w64 z
held_small (pos n) h = record { sfits = omega arith }
held_small (negsuc n) h = record { sfits = omega arith }

-- what is read as a whole number is below 10^18, and above minus that
from-zero-lt : (n : Option ℕ) → SmallOf n → SmallSigned (from_zero n)
from-zero-lt None h = tt
from-zero-lt (Some n) h = h

below-zero-lt : (n : Option ℕ) → SmallOf n → SmallSigned (below_zero n)
below-zero-lt None h = tt
below-zero-lt (Some zero) h = tt
below-zero-lt (Some (suc n)) h = h

signed-lt-by : (p : Bool) (m n : Option ℕ) → SmallOf m → SmallOf n → SmallSigned (cond p (below_zero m) (from_zero n))
signed-lt-by true m n a b = below-zero-lt m a
signed-lt-by false m n a b = from-zero-lt n b

pub signed_lt : (s : List ℕ) → SmallSigned (signed_of s)
signed_lt s = signed-lt-by (eqb (get_or s 0 0) 45) (number_of (drop 1 s)) (number_of s) (number_lt (drop 1 s)) (number_lt s)
