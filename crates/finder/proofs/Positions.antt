-- What a transfer does to each position, and how far from zero it can bring one.
use mathlib.Core.Path.{◌≡◌, refl, sym, ◌∙◌}
use mathlib.Core.Bool.{Bool, true, false, cond}
use mathlib.Core.List.{List}
use Prim.Native.Nat.{ℕ, ◌+◌, ◌≤◌, ◌<◌}
use native.Mathlib.Decide.{ℕ_discrete}
use native.Mathlib.Omega.{arith}
use lib.Dec.{eqb}
use lib.IntN.{ℤ, pos, negsuc, ◌+ℤ◌, ◌-ℤ◌}
use lib.ListN.{length, get_or, length-set}
use lib.Seq.{get_or-set_same, get_or-set_other}
use Rattle.rule.specs.Ints.{up, down}
use Rattle.rule.proofs.Ints.{plus, minus, eq_of, plus-zero}
use Rattle.rule.proofs.Sums.{eqb_same, eqb-other}
use Rattle.finder.specs.Limits.{far}
use Rattle.finder.specs.Positions.{added, moved}

-- ---- one position

added-at : (xs : List ℤ) (s i : ℕ) (z : ℤ) → s < length xs → get_or (added xs s z) i (pos 0) ≡ get_or xs i (pos 0) +ℤ cond (eqb s i) z (pos 0)
added-at xs s i z h = elim (ℕ_discrete i s) [
  | yes e ↦ rw (e, eqb_same {i = s} refl) (get_or-set_same xs s (get_or xs s (pos 0) +ℤ z) (pos 0) h)
  | no e ↦ rw (eqb-other {i = s} {j = i} (λ q. e (sym q)), get_or-set_other xs s i (get_or xs s (pos 0) +ℤ z) (pos 0) e) (sym (plus-zero (get_or xs i (pos 0))))
]

given : (x : ℤ) (b : Bool) (a : ℕ) → x +ℤ cond b (pos 0 -ℤ pos a) (pos 0) ≡ x -ℤ pos (cond b a 0)
given x true a = eq_of (x +ℤ (pos 0 -ℤ pos a)) (x -ℤ pos a) (omega (arith, plus x (pos 0 -ℤ pos a), minus (pos 0) (pos a), minus x (pos a)))
given x false a = eq_of (x +ℤ pos 0) (x -ℤ pos 0) (omega (arith, plus x (pos 0), minus x (pos 0)))

taken : (b : Bool) (a : ℕ) → cond b (pos a) (pos 0) ≡ pos (cond b a 0)
taken true a = refl
taken false a = refl

-- ---- a transfer

module _ (xs : List ℤ) (giver taker amount i : ℕ) (g : giver < length xs) where
  -- the giver has given,
  given-at : get_or (added xs giver (pos 0 -ℤ pos amount)) i (pos 0) ≡ get_or xs i (pos 0) -ℤ pos (cond (eqb giver i) amount 0)
  given-at = added-at xs giver i (pos 0 -ℤ pos amount) g ∙ given (get_or xs i (pos 0)) (eqb giver i) amount

  -- and the taker has it
  pub moved_at : taker < length xs → get_or (moved xs giver taker amount) i (pos 0)
      ≡ get_or xs i (pos 0) -ℤ pos (cond (eqb giver i) amount 0) +ℤ pos (cond (eqb taker i) amount 0)
  moved_at t = added-at (added xs giver (pos 0 -ℤ pos amount)) taker i (pos amount) (simp length-set t)
      ∙ rw (given-at, taken (eqb taker i) amount)

-- ---- how far

part : (b : Bool) (a : ℕ) → cond b a 0 ≤ a
part true a = omega arith
part false a = omega arith

farther : (x y : ℤ) (a b c : ℕ) → up y + (down x + b) ≡ up x + a + down y → a ≤ c → b ≤ c → far y ≤ far x + c
farther x (pos y) a b c e f g = omega arith
farther x (negsuc y) a b c e f g = omega arith

module _ (xs : List ℤ) (giver taker amount i : ℕ) (g : giver < length xs) where
  pub moved-far : taker < length xs → far (get_or (moved xs giver taker amount) i (pos 0)) ≤ far (get_or xs i (pos 0)) + amount
  moved-far t =
      let x = get_or xs i (pos 0) in
      let b : ℕ = cond (eqb giver i) amount 0 in
      let a : ℕ = cond (eqb taker i) amount 0 in
      rw (moved_at xs giver taker amount i g t) (farther x (x -ℤ pos b +ℤ pos a) a b amount (omega (arith, minus x (pos b), plus (x -ℤ pos b) (pos a)))
      (part (eqb taker i) amount) (part (eqb giver i) amount))
