-- What a test in several parts, or a test that a call answered, says of its parts.
use mathlib.Core.Path.{◌≡◌, refl, sym, ◌∙◌}
use mathlib.Core.Bool.{Bool, true, false, ◌&&◌, false≢true}
use lib.IntN.{ℤ, pos}
use lib.Signed.{le_z, ◌≤ℤ◌}
use native.Mathlib.Omega.{arith}
use Rattle.std.specs.Ordering.{int_eq}
use Rattle.std.proofs.lemmas.Bool.Decides.{same_from_decides, Decides-int_eq}
use Rattle.rule.proofs.Ints.{le_of, ≤ℤ-is, eq_of, le_z-true, true-le_z}
use Rattle.tables.specs.State.{is_zero}

-- ---- parts

-- both parts hold,
pub and_both : (a b : Bool) → (a && b) ≡ true → (a ≡ true) × (b ≡ true)
and_both true b e = (refl, e)
and_both false b e = absurd (false≢true e)

-- and so both together
pub and-of : {a b : Bool} → a ≡ true → b ≡ true → (a && b) ≡ true
and-of e f = rw (e, f)

-- ---- answers

-- the call's answer t, which is the test u, was no,
pub flag-no : {t u : Bool} → t ≡ u → t ≡ false → u ≡ false
flag-no e n = sym e ∙ n

-- or yes
pub flag-yes : {t u : Bool} → t ≡ u → t ≡ true → u ≡ true
flag-yes e n = sym e ∙ n

-- ---- whole numbers

-- a test of two whole numbers says which is the smaller,
pub le-true : (a b : ℤ) → le_z a b ≡ true → a ≤ℤ b
le-true a b e = le_of a b (le_z-true a b e)

-- and the other way
pub true-le : (a b : ℤ) → a ≤ℤ b → le_z a b ≡ true
true-le a b h = true-le_z a b (≤ℤ-is a b h)

-- the test for 0 says that it is 0,
pub zero-true : (z : ℤ) → is_zero z ≡ true → z ≡ pos 0
zero-true z e =
    let e1 = and_both (le_z z (pos 0)) (le_z (pos 0) z) e in
    eq_of z (pos 0) (omega (arith, le_z-true z (pos 0) e1.0, le_z-true (pos 0) z e1.1))

-- and the other way
pub true-zero : {z : ℤ} → z ≡ pos 0 → is_zero z ≡ true
true-zero e = rw e

-- and so does `==`
pub zero-same : (z : ℤ) → int_eq z (pos 0) ≡ is_zero z
zero-same z = same_from_decides (int_eq z (pos 0)) (is_zero z) (Decides-int_eq z (pos 0)) (zero-true z, true-zero)
