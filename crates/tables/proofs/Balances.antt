-- Accounts in order hold balances near zero, so that no sum of them wraps; and where the sum of all is bounded above and each balance
-- below, each is bounded above.
use mathlib.Core.Path.{◌≡◌}
use mathlib.Core.Bool.{Bool, true, false, cond, ◌&&◌}
use mathlib.Core.List.{List}
use Prim.Native.Nat.{ℕ, zero, suc, ◌+◌, ◌*◌, ◌≤◌, ◌<◌}
use native.Mathlib.Numerals.{add-one}
use native.Mathlib.Omega.{arith}
use native.Mathlib.Decide.{ℕ_discrete, dec_lt}
use lib.Dec.{ltb}
use lib.IntN.{ℤ, pos, negsuc, ◌+ℤ◌}
use lib.Signed.{le_z}
use lib.ListN.{length, get_or, take}
use lib.Seq.{get_or-take}
use mir.Syntax.{w64}
use mir.Val.{SFits, to_z, of_z}
use mir.Facts.{to_z-of_z}
use Rattle.rule.specs.Ints.{up, down}
use Rattle.rule.specs.House.{money}
use Rattle.rule.proofs.Ints.{ints, plus, le_z-true, ≤ℤ-is}
use Rattle.tables.specs.Sizes.{members, most, highest, most_line, table}
use Rattle.tables.specs.Layout.{balance_of, line_of, money_of}
use Rattle.tables.specs.Holds.{Accounts}
use Rattle.tables.specs.State.{every, is_zero, holder_ok, account_at}
use Rattle.tables.specs.Needs.{Near, Bounded}
use Rattle.tables.proofs.Tests.{and_both}
use Rattle.tables.proofs.Every.{every-at}

-- one of up and down is zero
near_of : (m : ℕ) (z : ℤ) → up z ≤ m + down z → down z ≤ m + up z → Near m z
near_of m (pos n) u d = record { above = omega arith; below = omega arith }
near_of m (negsuc n) u d = record { above = omega arith; below = omega arith }

-- ---- accounts in order are bounded

-- a member's balance is, where it is in order,
pub near-holder : (b l : ℤ) → holder_ok b l ≡ true → Near highest b
near-holder b l e =
    let e1 = and_both (le_z (pos 0) l) _ e in
    let e2 = and_both (le_z l (pos most_line)) _ e1.1 in
    let e3 = and_both (le_z b (pos highest)) (le_z (pos 0) (b +ℤ l)) e2.1 in
    let t1 = le_z-true (pos 0) l e1.0 in
    let t2 = le_z-true l (pos most_line) e2.0 in
    let t3 = le_z-true b (pos highest) e3.0 in
    let t4 = le_z-true (pos 0) (b +ℤ l) e3.1 in
    near_of highest b (omega (arith, plus b l)) (omega (arith, plus b l))

near-zero : (z : ℤ) → is_zero z ≡ true → Near highest z
near-zero z e =
    let e1 = and_both (le_z z (pos 0)) (le_z (pos 0) z) e in
    let t1 = le_z-true z (pos 0) e1.0 in
    let t2 = le_z-true (pos 0) z e1.1 in
    near_of highest z (omega arith) (omega arith)

near-account : (t : Bool) (b l : ℤ) → cond t (holder_ok b l) (is_zero b && is_zero l) ≡ true → Near highest b
near-account true b l e = near-holder b l e
near-account false b l e = near-zero b (and_both (is_zero b) (is_zero l) e).0

-- where each account is in order, no balance is further from zero than the highest
pub seats-bounded : (n : ℕ) (a : List ℤ) → table ≤ length a → every (account_at n a) members ≡ true → Bounded members a
seats-bounded n a h e = record {
  few = omega arith;
  long = omega arith;
  near = λ i q. near-account (ltb i n) (balance_of a i) (line_of a i) (every-at (account_at n a) members i e q);
}

-- for `accounts_ok`, before it sums them
pub ruleset bounded = (seats-bounded)

-- ---- and so are their sums

module _ (n : ℕ) (b : ℕ → ℤ) (near : (i : ℕ) → i < n → Near highest (b i)) where
  near-sum : (i : ℕ) → i ≤ n → Near (i * highest) (money i b)
  near-sum zero h = record { above = omega arith; below = omega arith }
  near-sum (suc i) h =
      let s = near-sum i (omega arith) in
      let t = near i h in
      near_of (suc i * highest) (money (suc i) b) (omega (arith, plus (money i b) (b i))) (omega (arith, plus (money i b) (b i)))

-- the sum of the first of bounded balances fits an i64
pub sum_fits : {n : ℕ} {a : List ℤ} → Bounded n a → (i : ℕ) → i ≤ n → SFits w64 (money i (balance_of a))
sum_fits {n} {a} b i h = let s = near-sum n (balance_of a) b.near i h in omega (ints, b.few)

-- and so does one of them
balance_fits : {n : ℕ} {a : List ℤ} → Bounded n a → (i : ℕ) → i < n → SFits w64 (balance_of a i)
balance_fits {n} {a} b i h = let s = b.near i h in omega (ints, s.above, s.below)

-- the loop of `total` adds the next of the first n balances: that fits, and gives the next sum
pub sum-turn : {n : ℕ} {a : List ℤ} → Bounded n a → (i s : ℕ) → i < n → to_z w64 s ≡ money i (balance_of a)
    → SFits w64 (to_z w64 s +ℤ to_z w64 (of_z w64 (get_or (take n a) i (pos 0))))
    × (to_z w64 (of_z w64 (to_z w64 s +ℤ to_z w64 (of_z w64 (get_or (take n a) i (pos 0))))) ≡ money (i + 1) (balance_of a))
sum-turn {n} {a} b i s h e =
    let r : to_z w64 (of_z w64 (get_or (take n a) i (pos 0))) ≡ balance_of a i = rw (get_or-take n a i (pos 0) h) (to_z-of_z (balance_fits b i h)) in
    let f : SFits w64 (money i (balance_of a) +ℤ balance_of a i) = rw add-one at (sum_fits b (i + 1) (omega arith)) in
    (rw (e, r) f, rw (e, r, add-one) (to_z-of_z f))

-- ---- one balance, by the sum of all

module _ (m : ℕ) (b : ℕ → ℤ) where
  sum_low : (n : ℕ) → ((i : ℕ) → i < n → down (b i) ≤ m) → down (money n b) ≤ n * m + up (money n b)
  sum_low zero f = omega arith
  sum_low (suc n) f = omega (arith, sum_low n (λ i h. f i (omega arith)), f n (omega arith), plus (money n b) (b n))

  -- where no balance is below minus m, each is at most the sum of all and m for each
  pub balance-high : (n k : ℕ) → k < n → ((i : ℕ) → i < n → down (b i) ≤ m) → up (b k) + down (money n b) ≤ n * m + up (money n b) + down (b k)
  balance-high zero k h f = absurd (omega arith)
  balance-high (suc n) k h f = go (ℕ_discrete k n) (λ q. balance-high n k q (λ i h. f i (omega arith)))
    where
      go : Dec (k ≡ n) → (k < n → up (b k) + down (money n b) ≤ n * m + up (money n b) + down (b k))
          → up (b k) + down (money (suc n) b) ≤ suc n * m + up (money (suc n) b) + down (b k)
      go (yes e) ih = rw e (omega (arith, sum_low n (λ i h. f i (omega arith)), plus (money n b) (b n)))
      go (no e) ih = omega (arith, ih (omega arith), f n (omega arith), plus (money n b) (b n))

low_of : (m : ℕ) (z : ℤ) → down z ≤ m + up z → down z ≤ m
low_of m (pos n) h = omega arith
low_of m (negsuc n) h = omega arith

module _ {n : ℕ} {a : List ℤ} (h : Accounts n a) where
  -- no balance of what holds document 01's list is below minus the highest line,
  pub accounts-low : (i : ℕ) → i < members → down (balance_of a i) ≤ most_line
  accounts-low i q = elim (dec_lt i n) [
    | yes l ↦
        let o = h.holders i l in
        let t1 = ≤ℤ-is (pos 0) (line_of a i) o.line in
        let t2 = ≤ℤ-is (line_of a i) (pos most_line) o.small in
        let t3 = ≤ℤ-is (pos 0) (balance_of a i +ℤ line_of a i) o.cover in
        low_of most_line (balance_of a i) (omega (arith, plus (balance_of a i) (line_of a i)))
    | no l ↦ rw (h.no_balance i (omega arith) q) (omega arith)
  ]

  -- and each is near zero
  pub accounts-near : (i : ℕ) → i < members → Near highest (balance_of a i)
  accounts-near i q =
      let t1 = ≤ℤ-is (money_of a) (pos most) h.sum in
      let t2 = accounts-low i q in
      near_of highest (balance_of a i) (omega (arith, balance-high most_line (balance_of a) members i q accounts-low)) (omega arith)

  -- so that no sum of them wraps,
  pub accounts-bounded : Bounded members a
  accounts-bounded = record { few = omega arith; long = omega (arith, h.long); near = accounts-near }
