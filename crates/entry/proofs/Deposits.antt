-- An accepted deposit leaves a state, and is the rule's deposit: from what its judgement found, and from the one place of the accounts that is set.
use mathlib.Core.Path.{◌≡◌, refl, sym, ap, ◌∙◌}
use mathlib.Core.Logic.{◌≢◌}
use Prim.Native.Nat.{ℕ, ◌+◌, ◌-◌, ◌<◌, ◌≤◌}
use native.Mathlib.Decide.{ℕ_discrete}
use native.Mathlib.Omega.{arith}
use lib.IntN.{ℤ, pos, ◌+ℤ◌}
use lib.ListN.{get_or, length-set}
use lib.Seq.{get_or-set_same, get_or-set_other}
use Rattle.rule.specs.House.{Same}
use Rattle.rule.specs.Day.{deposit, call, only_for}
use Rattle.rule.specs.Ints.{up}
use Rattle.rule.proofs.Ints.{plus, plus-zero, le_of, ≤ℤ-is}
use Rattle.rule.proofs.Sums.{sum-only, eqb_same, eqb-other}
use Rattle.rule.proofs.Money.{money-credited, money-same}
use Rattle.tables.specs.Layout.{Tables, members_in, house_in, balance_of, money_of, lines_at, spare_accounts_at}
use Rattle.tables.specs.Sizes.{members}
use Rattle.tables.specs.Holds.{Holder, Holds}
use Rattle.entry.specs.Deposit.{deposited_in}
use Rattle.entry.proofs.Judging.{Deposits}

holder-more : {b l : ℤ} (x : ℕ) → Holder b l → Holder (b +ℤ pos x) l
holder-more {b} {l} x h = record {
  line = h.line;
  small = h.small;
  cover = le_of (pos 0) (b +ℤ pos x +ℤ l) (omega (arith, ≤ℤ-is (pos 0) (b +ℤ l) h.cover, plus b l, plus b (pos x), plus (b +ℤ pos x) l));
}

module _ {T : Tables} {m x : ℕ} (h : Holds T) (d : Deposits T m x) where
  seat : m - 1 < members_in T
  seat = omega (arith, d.one, d.within)

  other : (k : ℕ) → k ≢ m - 1 → get_or (deposited_in T m x).accounts k (pos 0) ≡ get_or T.accounts k (pos 0)
  unfolding deposited_in
  other k ne = get_or-set_other T.accounts (m - 1) k (balance_of T.accounts (m - 1) +ℤ pos x) (pos 0) ne

  later : (k : ℕ) → lines_at ≤ k → get_or (deposited_in T m x).accounts k (pos 0) ≡ get_or T.accounts k (pos 0)
  later k l = other k (λ e. omega (arith, seat, h.counters.few))

  -- the member's balance is x more, and each other stays,
  pub deposits-balance : (i : ℕ) → balance_of (deposited_in T m x).accounts i ≡ balance_of T.accounts i +ℤ pos (only_for (m - 1) x i)
  unfolding deposited_in
  deposits-balance i = elim (ℕ_discrete (m - 1) i) [
    | yes e ↦
        let b = balance_of T.accounts (m - 1) +ℤ pos x in
        let g = get_or-set_same T.accounts (m - 1) b (pos 0) (omega (arith, seat, h.counters.few, h.accounts.long)) in
        rw (eqb_same e) (ap (balance_of (deposited_in T m x).accounts) (sym e) ∙ g ∙ ap (λ j. balance_of T.accounts j +ℤ pos x) e)
    | no e ↦ rw (eqb-other e) (other i (λ q. e (sym q)) ∙ sym (plus-zero (balance_of T.accounts i)))
  ]

  -- so that the sum of all is x more,
  pub deposits-money : money_of (deposited_in T m x).accounts ≡ money_of T.accounts +ℤ pos x
  deposits-money =
      money-same members (λ i. balance_of T.accounts i +ℤ pos (only_for (m - 1) x i)) (balance_of (deposited_in T m x).accounts) (λ i l. deposits-balance i)
      ∙ money-credited members (house_in T) (only_for (m - 1) x)
      ∙ ap (λ s. money_of T.accounts +ℤ pos s) (sum-only members (m - 1) x (omega (arith, seat, h.counters.few)))

  -- the tables hold a state: only the accounts have changed,
  pub deposits-hold : Holds (deposited_in T m x)
  unfolding deposited_in
  deposits-hold = record {
    counters = h.counters;
    accounts = record {
      long = simp length-set h.accounts.long;
      holders = λ i l. rw (deposits-balance i, later (lines_at + i) (omega arith)) (holder-more (only_for (m - 1) x i) (h.accounts.holders i l));
      sum = rw deposits-money d.sum;
      no_balance = λ i l q. other i (λ e. omega (arith, seat)) ∙ h.accounts.no_balance i l q;
      no_line = λ i l q. later (lines_at + i) (omega arith) ∙ h.accounts.no_line i l q;
      spare = λ k q. later (spare_accounts_at + k) (omega arith) ∙ h.accounts.spare k q;
    };
    places = h.places;
    numbers = h.numbers;
  }

  -- of the same counters,
  pub deposits-counters : (deposited_in T m x).counters ≡ T.counters
  unfolding deposited_in
  deposits-counters = refl

  -- and the house is the one after the rule's deposit
  pub deposits-call : Same (members_in T) (call (members_in T) (house_in T) (deposit (m - 1) x)) (house_in (deposited_in T m x))
  unfolding deposited_in
  deposits-call = record { lines = λ i l. ap up (later (lines_at + i) (omega arith)); balances = λ i l. deposits-balance i; queues = λ i l. refl }
