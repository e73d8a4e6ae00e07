-- `entry::deposit::judge_deposit` meets its contract: the sum of a state with an amount more fits an i64.
use mathlib.Core.Path.{◌≡◌, sym}
use mathlib.Core.Bool.{true, false}
use Prim.Native.Nat.{ℕ, ◌≤◌, ◌<◌, ◌^◌}
use native.Mathlib.Omega.{arith}
use lib.IntN.{ℤ, pos, ◌+ℤ◌}
use lib.Signed.{mag, lt_z, ◌≤ℤ◌}
use mir.Syntax.{w64}
use mir.Val.{SFits, to_z, of_z}
use Rattle.rule.proofs.Ints.{ints, plus, plain, ends, ≤ℤ-is, lt_z-true, lt_z-false, true-le_z, false-le_z}
use Rattle.tables.specs.Sizes.{most, most_amount}
use Rattle.tables.specs.Layout.{money_of}
use Rattle.tables.proofs.Balances.{accounts-bounded}
use Rattle.answers.proofs.Judging.{amount-in}
use Rattle.entry.proofs.deposit.judge_deposit.Goals as goal

sum-is : (t : ℤ) (x : ℕ) → mag t < 2 ^ 63 → t ≤ℤ pos most → x ≤ most_amount → to_z w64 (of_z w64 (to_z w64 (of_z w64 t) +ℤ to_z w64 x)) ≡ t +ℤ pos x
sum-is t x f m s =
    let small : x < 2 ^ 63 = omega arith in
    let g : SFits w64 (t +ℤ pos x) = omega (ints, ≤ℤ-is t (pos most) m, ends t (record { sfits = f }), plus t (pos x)) in
    simp plain

pub total-requires : goal.total-requires
total-requires c = accounts-bounded c.requires.1

pub returns-then-sum : goal.returns-then-sum
returns-then-sum c =
    let z = money_of c.args.accounts.now +ℤ pos c.args.amount in
    let e = sum-is c.total.result c.args.amount c.total.type_inv (rw c.total.ensures c.requires.1.sum) (amount-in c.args.amount (sym c.if-not-is_amount.ensures)).1 in
    let g : lt_z (pos most) z ≡ true = rw (e, c.total.ensures) at c.if-sum.true in
    rw (sym c.if-not-is_member.ensures, sym c.if-not-is_amount.ensures, false-le_z z (pos most) (lt_z-true (pos most) z g))

pub returns : goal.returns
returns c =
    let z = money_of c.args.accounts.now +ℤ pos c.args.amount in
    let e = sum-is c.total.result c.args.amount c.total.type_inv (rw c.total.ensures c.requires.1.sum) (amount-in c.args.amount (sym c.if-not-is_amount.ensures)).1 in
    let g : lt_z (pos most) z ≡ false = rw (e, c.total.ensures) at c.if-sum.false in
    rw (sym c.if-not-is_member.ensures, sym c.if-not-is_amount.ensures, true-le_z z (pos most) (lt_z-false (pos most) z g))
