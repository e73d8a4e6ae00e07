-- Who is not below minus its line is covered, and who is is not; and the members who are covered at the positions of a set are those whom the rule has.
use mathlib.Core.Path.{◌≡◌, refl, sym, ap, ◌∙◌}
use mathlib.Core.Bool.{Bool, true, false, not}
use mathlib.Core.List.{List}
use Prim.Native.Nat.{ℕ, zero, suc, ◌<◌}
use native.Mathlib.Omega.{arith}
use lib.IntN.{ℤ, pos, ◌+ℤ◌, ◌-ℤ◌}
use lib.Signed.{le_z, lt_z}
use Rattle.rule.specs.House.{position}
use Rattle.rule.proofs.Ints.{plus, minus, lt_z-true, lt_z-false, true-le_z, false-le_z}
use Rattle.tables.specs.Sizes.{members}
use Rattle.tables.specs.Layout.{Tables, members_in, house_in, line_of}
use Rattle.tables.specs.State.{every}
use Rattle.tables.specs.Holds.{Holds}
use Rattle.tables.proofs.Houses.{line-is}
use Rattle.booking.specs.Booking.{listed, covered_at, covered_all, Weighed}

-- a position x that is not below minus the line l is covered, and one that is below is not
pub covered-not : (x l : ℤ) → not (lt_z x (pos 0 -ℤ l)) ≡ le_z (pos 0) (x +ℤ l)
covered-not x l = go (lt_z x (pos 0 -ℤ l)) refl
  where
    go : (b : Bool) → lt_z x (pos 0 -ℤ l) ≡ b → not b ≡ le_z (pos 0) (x +ℤ l)
    go true e = sym (false-le_z (pos 0) (x +ℤ l) (omega (arith, lt_z-true x (pos 0 -ℤ l) e, plus x l, minus (pos 0) l)))
    go false e = sym (true-le_z (pos 0) (x +ℤ l) (omega (arith, lt_z-false x (pos 0 -ℤ l) e, plus x l, minus (pos 0) l)))

every-same : (f g : ℕ → Bool) (n : ℕ) → ((i : ℕ) → i < n → f i ≡ g i) → every f n ≡ every g n
unfolding every
every-same f g zero e = refl
every-same f g (suc n) e = rw (every-same f g n (λ i h. e i (omega arith)), e n (omega arith))

-- the test of the positions is the rule's, of each member
pub covered-is : {T : Tables} {counts : List ℕ} {positions : List ℤ} → Holds T → Weighed T counts positions
    → covered_all (members_in T) positions T.accounts ≡ every
    (λ i. le_z (pos 0) (position (members_in T) (house_in T) (listed counts) i +ℤ pos ((house_in T).line i))) (members_in T)
covered-is {T} {counts} {positions} h w =
    every-same (covered_at positions T.accounts) (λ i. le_z (pos 0) (position (members_in T) (house_in T) (listed counts) i +ℤ pos ((house_in T).line i)))
    (members_in T)
    (λ i l.
    let q : i < members = omega (arith, h.counters.few) in
    ap (λ x. le_z (pos 0) (x +ℤ line_of T.accounts i)) (w.weighs i q)
    ∙ ap (λ x. le_z (pos 0) (position (members_in T) (house_in T) (listed counts) i +ℤ x)) (line-is h i q))
