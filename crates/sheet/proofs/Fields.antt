-- Numbers with a tab before each, one after the other.
use native.Mathlib.Omega.{arith}
use mathlib.Core.Path.{◌≡◌, refl, ap}
use mathlib.Core.List.{List, [], ◌∷◌, ◌++◌, append-nil}
use Prim.Native.Nat.{ℕ, zero, suc, ◌+◌, ◌≤◌, ◌<◌, ◌^◌}
use lib.ListN.{length, get_or, take, drop, length-append}
use lib.IntN.{ℤ, pos, nat_abs}
use mir.Syntax.{w64}
use mir.Val.{to_z, of_z}
use Rattle.std.proofs.Common.{append_assoc}
use Rattle.std.proofs.lemmas.List.{take_more, take-append-drop}
use Rattle.numbers.specs.Numbers.{most_digits, signed_text}
use Rattle.sheet.specs.Lines.{tabbed}
use Rattle.sheet.specs.Room.{AllShort}
use Rattle.sheet.proofs.Ranges.{handed-on}

tabbed-append : (a b : List ℤ) → tabbed (a ++ b) ≡ tabbed a ++ tabbed b
unfolding tabbed
tabbed-append [] b = refl
tabbed-append (z ∷ a) b = rw (tabbed-append a b, append_assoc)

module _ (zs : List ℤ) (i : ℕ) (h : i < length zs) where
  -- one number more
  pub tabbed-more : tabbed (take (i + 1) zs) ≡ (tabbed (take i zs) ++ 9 ∷ []) ++ signed_text (get_or zs i (pos 0))
  unfolding tabbed
  tabbed-more = rw (
    take_more zs i (pos 0) h,
    tabbed-append (take i zs) (get_or zs i (pos 0) ∷ []),
    append-nil,
    append_assoc (tabbed (take i zs)) (9 ∷ []) (signed_text (get_or zs i (pos 0))),
  )

  -- all of them have as many bytes at least
  pub more-within : length (tabbed (take i zs)) + 1 + length (signed_text (get_or zs i (pos 0))) ≤ length (tabbed zs)
  more-within =
      let a = ap length tabbed-more in
      let b = ap length (tabbed-append (take (i + 1) zs) (drop (i + 1) zs)) in
      let c = ap (λ (l : List ℤ). length (tabbed l)) (take-append-drop (i + 1) zs) in
      let d : length ((tabbed (take i zs) ++ 9 ∷ []) ++ signed_text (get_or zs i (pos 0))) ≡ length (tabbed (take i zs)) + 1 + length (signed_text (get_or zs i (pos 0))) = simp length-append in
      let e : length (tabbed (take (i + 1) zs) ++ tabbed (drop (i + 1) zs)) ≡ length (tabbed (take (i + 1) zs)) + length (tabbed (drop (i + 1) zs)) = simp length-append in
      omega (arith, a, b, c, d, e)

pub short-at : (zs : List ℤ) (i : ℕ) → AllShort zs → nat_abs (get_or zs i (pos 0)) < 10 ^ most_digits
short-at [] i s = omega arith
short-at (z ∷ zs) zero s = s.0
short-at (z ∷ zs) (suc i) s = short-at zs i s.1

-- a number of them, as it is handed on
pub handed-at : (zs : List ℤ) (i : ℕ) → AllShort zs → to_z w64 (of_z w64 (get_or zs i (pos 0))) ≡ get_or zs i (pos 0)
handed-at zs i s = handed-on (get_or zs i (pos 0)) (get_or zs i (pos 0)) refl (short-at zs i s)
