-- Numbers in text, as document 01 has them: 1 to 18 digits with no leading zero, 0 itself is `0`, and `-` only before a number above 0.
-- A text is the list of its bytes.
use Rattle.std.specs.Prelude.{ℕ, zero, suc, ◌+◌, ◌-◌, ◌*◌, ◌/◌, ◌%◌, ◌^◌, ◌<◌, cond, List, [], ◌∷◌, ◌++◌, ltb, eqb, length, get_or, drop, ℤ, pos, negsuc, nat_abs, Option, Some, None}

-- the most digits that a number has; `-` is not among them
abbrev pub most_digits : ℕ
most_digits = 18

-- the number whose first digits make a and whose other digits are s; bad where a byte of s is no digit (48 is `0`, 57 is `9`)
unfoldable pub digits_from : ℕ → List ℕ → Option ℕ
digits_from a [] = Some a
digits_from a (d ∷ s) = cond (ltb d 48) None (cond (ltb 57 d) None (digits_from (a * 10 + (d - 48)) s))

-- what a text says as a number: 1 to 18 digits, of which `0` is the first only if it is alone
abbrev pub number_of : List ℕ → Option ℕ
number_of s =
    cond (ltb (length s) 1)
    None
    (cond (ltb most_digits (length s))
    None
    (cond (eqb (get_or s 0 0) 48) (cond (ltb 1 (length s)) None (Some 0)) (digits_from 0 s)))

-- a number of k digits or fewer, where it is one
abbrev pub SmallAt : ℕ → Option ℕ → Type 0
SmallAt k None = Unit
SmallAt k (Some n) = n < 10 ^ k

-- a number of at most 18 digits, where it is one
abbrev pub SmallOf : Option ℕ → Type 0
SmallOf n = SmallAt most_digits n

-- the whole number that a number behind `-` makes; wrong for 0
abbrev pub below_zero : Option ℕ → Option ℤ
below_zero None = None
below_zero (Some zero) = None
below_zero (Some (suc n)) = Some (negsuc n)

-- the whole number that a number without a sign makes
abbrev pub from_zero : Option ℕ → Option ℤ
from_zero None = None
from_zero (Some n) = Some (pos n)

-- what a text says as a whole number: a number, with `-` (45) before it if it is below 0
abbrev pub signed_of : List ℕ → Option ℤ
signed_of s = cond (eqb (get_or s 0 0) 45) (below_zero (number_of (drop 1 s))) (from_zero (number_of s))

-- a whole number of at most 18 digits, where it is one
abbrev pub SmallSigned : Option ℤ → Type 0
SmallSigned None = Unit
SmallSigned (Some z) = nat_abs z < 10 ^ most_digits

-- the last w digits of x
unfoldable pub last_digits : ℕ → ℕ → List ℕ
last_digits zero x = []
last_digits (suc w) x = last_digits w (x / 10) ++ ((48 + x % 10) ∷ [])

-- how many digits x has, if they are at most f + 1
unfoldable pub width_up_to : ℕ → ℕ → ℕ
width_up_to zero x = 1
width_up_to (suc f) x = cond (ltb x 10) 1 (suc (width_up_to f (x / 10)))

-- how many digits a number of 64 bits has
abbrev pub width_of : ℕ → ℕ
width_of x = width_up_to 19 x

-- the text of a number
abbrev pub digits_of : ℕ → List ℕ
digits_of x = last_digits (width_of x) x

-- the text of a whole number
abbrev pub signed_text : ℤ → List ℕ
signed_text (pos n) = digits_of n
signed_text (negsuc n) = 45 ∷ digits_of (suc n)
