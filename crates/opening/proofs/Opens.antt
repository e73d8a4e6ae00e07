-- An accepted opening leaves a state, of these balances and lines and with empty queues: from what its judgement found, and from what fills the tables.
use mathlib.Core.Path.{◌≡◌, ◌∙◌}
use mathlib.Core.List.{List, []}
use Prim.Native.Nat.{ℕ, zero, suc, ◌+◌, ◌-◌, ◌<◌, ◌≤◌}
use native.Mathlib.Decide.{ℕ_discrete}
use native.Mathlib.Omega.{arith}
use borrow.Author.Tests.{lt-ltb, le-ltb, lt-leb, le-leb, ne_eqb}
use lib.IntN.{ℤ, pos}
use lib.ListN.{get_or}
use Rattle.rule.specs.House.{money}
use Rattle.rule.specs.Table.{queue_of}
use Rattle.rule.proofs.Ints.{plus-zero}
use Rattle.rule.proofs.Lists.{fill-at, fill-length}
use Rattle.rule.proofs.Money.{money-same}
use Rattle.tables.specs.Sizes.{members, places, table}
use Rattle.tables.specs.Layout.{Tables, members_in, waiting_in, words_in, last_of, balance_of, line_of, money_of}
use Rattle.tables.specs.Layout.{lines_at, spare_accounts_at, waiting_at, spare_singles_at, lasts_at, settled_at, spare_counters_at}
use Rattle.tables.specs.Holds.{Holds}
use Rattle.tables.proofs.States.{holder-is}
use Rattle.opening.specs.Open.{entry, account_opened, counter_opened, opened_in}
use Rattle.opening.proofs.Judging.{Opens}

-- balances of 0 add nothing
money-trim : (b : ℕ → ℤ) (n k : ℕ) → k ≤ n → ((i : ℕ) → k ≤ i → i < n → b i ≡ pos 0) → money n b ≡ money k b
money-trim b zero k h e = let q : k ≡ 0 = omega arith in rw q
money-trim b (suc n) k h e = go (ℕ_discrete k (suc n)) (money-trim b n k)
  where
    go : Dec (k ≡ suc n) → (k ≤ n → ((i : ℕ) → k ≤ i → i < n → b i ≡ pos 0) → money n b ≡ money k b) → money (suc n) b ≡ money k b
    go (yes q) ih = rw q
    go (no q) ih = rw (e n (omega arith) (omega arith), plus-zero) (ih (omega arith) (λ i l r. e i l (omega arith)))

-- ---- what stands at each place that is filled

module _ (n : ℕ) (b l : List ℤ) (few : n ≤ members) where
  at-balance : (i : ℕ) → i < n → account_opened n b l i ≡ entry b i
  at-balance i q = rw (lt-ltb i n q)

  at-line : (i : ℕ) → i < n → account_opened n b l (lines_at + i) ≡ entry l i
  at-line i q =
      let e : lines_at + i - lines_at ≡ i = omega arith in
      rw (le-ltb (lines_at + i) n (omega arith), le-leb lines_at (lines_at + i) (omega arith), e, lt-ltb i n q)

  at_low : (i : ℕ) → n ≤ i → i < members → account_opened n b l i ≡ pos 0
  at_low i q r = rw (le-ltb i n q, lt-leb lines_at i r)

  at_high : (k : ℕ) → lines_at + n ≤ k → account_opened n b l k ≡ pos 0
  at_high k q = rw (le-ltb k n (omega arith), le-leb lines_at k (omega arith), le-ltb (k - lines_at) n (omega arith))

module _ {T : Tables} {n : ℕ} {b l : List ℤ} (o : Opens T n b l) where
  few : n ≤ members
  few = o.opening.few

  account : (k : ℕ) → k < table → get_or (opened_in T n b l).accounts k (pos 0) ≡ account_opened n b l k
  unfolding opened_in
  account k q = fill-at (account_opened n b l) T.accounts table k (pos 0) q

  counter : (k : ℕ) → 1 ≤ k → k < table → get_or (opened_in T n b l).counters k 0 ≡ 0
  unfolding opened_in
  counter k l q = fill-at (counter_opened n) T.counters table k 0 q ∙ rw (ne_eqb k 0 (λ e. omega arith))

  -- the count is n,
  pub opens-count : members_in (opened_in T n b l) ≡ n
  unfolding opened_in
  opens-count = fill-at (counter_opened n) T.counters table 0 0 (omega arith)

  -- no payment waits,
  pub opens-waiting : waiting_in (opened_in T n b l) ≡ 0
  unfolding opened_in
  opens-waiting = counter waiting_at (omega arith) (omega arith)

  -- so that each queue is empty,
  pub opens-queue : (i : ℕ) → queue_of i (words_in (opened_in T n b l)) ≡ []
  unfolding opened_in
  opens-queue i = rw opens-waiting

  -- each last number is 0,
  pub opens-last : (i : ℕ) → i < members → last_of (opened_in T n b l).counters i ≡ 0
  unfolding opened_in
  opens-last i q = counter (lasts_at + i) (omega arith) (omega arith)

  -- each member has the balance given,
  pub opens-balance : (i : ℕ) → i < n → balance_of (opened_in T n b l).accounts i ≡ entry b i
  unfolding opened_in
  opens-balance i q = account i (omega (arith, few)) ∙ at-balance n b l few i q

  -- and the line given,
  pub opens-line : (i : ℕ) → i < n → line_of (opened_in T n b l).accounts i ≡ entry l i
  unfolding opened_in
  opens-line i q = account (lines_at + i) (omega (arith, few)) ∙ at-line n b l few i q

  no_balance : (i : ℕ) → n ≤ i → i < members → balance_of (opened_in T n b l).accounts i ≡ pos 0
  unfolding opened_in
  no_balance i q r = account i (omega arith) ∙ at_low n b l few i q r

  past : (k : ℕ) → lines_at + n ≤ k → k < table → get_or (opened_in T n b l).accounts k (pos 0) ≡ pos 0
  unfolding opened_in
  past k q r = account k r ∙ at_high n b l few k q

  -- so that the sum of all is that of the balances given,
  pub opens-money : money_of (opened_in T n b l).accounts ≡ money n (entry b)
  unfolding opened_in
  opens-money =
      let a = (opened_in T n b l).accounts in
      money-trim (balance_of a) members n few no_balance ∙ money-same n (entry b) (balance_of a) opens-balance

  -- and the tables hold a state
  pub opens-hold : Holds (opened_in T n b l)
  unfolding opened_in
  opens-hold = record {
    counters = record {
      broad = rw (fill-length (counter_opened n) T.counters table o.broad) o.broad;
      one = rw opens-count o.opening.one;
      few = rw opens-count few;
      room = rw opens-waiting (omega arith);
      spare = λ k q. counter (spare_singles_at + k) (omega arith) (omega arith);
      later = λ k q. counter (spare_counters_at + k) (omega arith) (omega arith);
    };
    accounts = rw opens-count (record {
      long = rw (fill-length (account_opened n b l) T.accounts table o.long) o.long;
      holders = λ i q. rw (opens-balance i q, opens-line i q) (holder-is (entry b i) (entry l i) (o.opening.holders i q));
      sum = rw opens-money o.opening.sum;
      no_balance = no_balance;
      no_line = λ i q r. past (lines_at + i) (omega arith) (omega arith);
      spare = λ k q. past (spare_accounts_at + k) (omega (arith, few)) (omega arith);
    });
    places = rw opens-waiting (record {
      deep = rw (fill-length (λ k. 0) T.pays places o.deep) o.deep;
      words = λ k q. absurd (omega arith);
      no_payment = λ k q r. fill-at (λ j. 0) T.pays places k 0 r;
    });
    numbers = record {
      each = λ i q. rw (opens-queue i, counter (settled_at + i) (omega arith) (omega arith), opens-last i q);
      no_number = λ i q r. opens-last i r;
    };
  }
