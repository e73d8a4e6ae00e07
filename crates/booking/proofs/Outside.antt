-- Who is no member pays nothing and is paid nothing, so that booking keeps the sum of all balances.
use mathlib.Core.Path.{◌≡◌, refl, sym, ap, ◌∙◌}
use mathlib.Core.List.{List, [], ◌∷◌}
use Prim.Native.Nat.{ℕ, zero, suc, ◌≤◌, ◌<◌}
use native.Mathlib.Decide.{ℕ_discrete}
use native.Mathlib.Omega.{arith}
use lib.IntN.{ℤ, pos, ◌+ℤ◌}
use lib.Seq.{take-nil}
use Rattle.rule.specs.Kernel.{Counts}
use Rattle.rule.specs.Payment.{payee_of, amount_of, amount_to}
use Rattle.rule.specs.Queue.{worth, Outgoing}
use Rattle.rule.specs.House.{sent, received, position, money}
use Rattle.rule.proofs.Ints.{plus-zero}
use Rattle.rule.proofs.Sums.{sum-cong, sum-zero, eqb-other}
use Rattle.rule.proofs.Queues.{outgoing-drop}
use Rattle.rule.proofs.Money.{money-booked}
use Rattle.tables.specs.Sizes.{members}
use Rattle.tables.specs.Layout.{Tables, members_in, house_in, balance_of, money_of}
use Rattle.tables.specs.Holds.{Holds}
use Rattle.tables.proofs.Houses.{holds-proper, no-queue}

-- payments to members bring nothing to others
none-to : (n i j : ℕ) (q : List ℕ) (k : ℕ) → n ≤ i → Outgoing n j q → worth (amount_to i) q k ≡ 0
unfolding worth
none-to n i j [] k h o = rw take-nil
none-to n i j (w ∷ ws) zero h o = refl
none-to n i j (w ∷ ws) (suc k) h o =
    let l : payee_of w < n = o.to 0 (omega arith) in
    rw (eqb-other {i = payee_of w} {j = i} (λ e. omega arith), none-to n i j ws k h (outgoing-drop 1 (w ∷ ws) o))

none_from : (k : ℕ) → worth amount_of [] k ≡ 0
unfolding worth
none_from k = rw take-nil

-- a sum of balances goes no further than the last that is not 0
money-rest : (m n : ℕ) (b : ℕ → ℤ) → n ≤ m → ((i : ℕ) → n ≤ i → i < m → b i ≡ pos 0) → money m b ≡ money n b
money-rest zero n b h f = let e : n ≡ 0 = omega arith in rw e
money-rest (suc m) n b h f = elim (ℕ_discrete n (suc m)) [
  | yes e ↦ rw e
  | no e ↦ ap (λ x. money m b +ℤ x) (f m (omega arith) (omega arith)) ∙ plus-zero (money m b) ∙ money-rest m n b (omega arith) (λ i k l. f i k (omega arith))
]

module _ {T : Tables} (h : Holds T) (z : Counts) where
  sends_none : (i : ℕ) → members_in T ≤ i → sent (house_in T) z i ≡ 0
  unfolding sent
  sends_none i l = rw (no-queue h i l) (none_from (z i))

  receives-none : (i : ℕ) → members_in T ≤ i → received (members_in T) (house_in T) z i ≡ 0
  unfolding received
  receives-none i l =
      sum-cong (members_in T) (λ j. worth (amount_to i) ((house_in T).queue j) (z j)) (λ j. 0)
      (λ j k. none-to (members_in T) i j ((house_in T).queue j) (z j) l ((holds-proper h).outgoing j k))
      ∙ sum-zero (members_in T)

  -- whatever is booked, who is no member stands at 0,
  pub no-position : (i : ℕ) → members_in T ≤ i → i < members → position (members_in T) (house_in T) z i ≡ pos 0
  no-position i l q = rw (h.accounts.no_balance i l q, sends_none i l, receives-none i l)

  -- and the sum of all balances is as it was
  pub money-position : money members (position (members_in T) (house_in T) z) ≡ money_of T.accounts
  money-position =
      money-rest members (members_in T) (position (members_in T) (house_in T) z) h.counters.few no-position
      ∙ money-booked (members_in T) (house_in T) z (holds-proper h)
      ∙ sym (money-rest members (members_in T) (balance_of T.accounts) h.counters.few h.accounts.no_balance)
