-- A state, by document 01's list: what the lent lists hold, list by list.
use Rattle.std.specs.Prelude.{◌≡◌, ◌≢◌, List, ℕ, ◌+◌, ◌≤◌, ◌<◌, ℤ, pos, ◌+ℤ◌, ◌≤ℤ◌, length, get_or}
use Rattle.rule.specs.Payment.{payer_of, payee_of, amount_of, flags_of}
use Rattle.rule.specs.Table.{queue_of}
use Rattle.tables.specs.Sizes.{most, members, most_amount, most_line, places, table}
use Rattle.tables.specs.Layout.{Tables, members_in, waiting_in, count_of, waiting_of, last_of, settled_of, balance_of, line_of, money_of, words_of}
use Rattle.tables.specs.Layout.{spare_accounts, spare_accounts_at, spare_counters, spare_counters_at, spare_singles, spare_singles_at}

-- a member's balance b and line l: the line is 0 to 10^12, and balance + line >= 0
pub record Holder (b l : ℤ) : Type 0 where
  pub line : pos 0 ≤ℤ l
  pub small : l ≤ℤ pos most_line
  pub cover : pos 0 ≤ℤ (b +ℤ l)

-- a payment of 1 to 10^12 from one of the n members to another, with no flags
pub record Payment (n w : ℕ) : Type 0 where
  pub payer : payer_of w < n
  pub payee : payee_of w < n
  pub other : payer_of w ≢ payee_of w
  pub plain : flags_of w ≡ 0
  pub some : 1 ≤ amount_of w
  pub small : amount_of w ≤ most_amount

-- 1 to 64 members, at most 2,048 payments wait, and the spare counters are 0
pub record Counters (c : List ℕ) : Type 0 where
  pub broad : table ≤ length c
  pub one : 1 ≤ count_of c
  pub few : count_of c ≤ members
  pub room : waiting_of c ≤ places
  pub spare : (k : ℕ) → k < spare_singles → get_or c (spare_singles_at + k) 0 ≡ 0
  pub later : (k : ℕ) → k < spare_counters → get_or c (spare_counters_at + k) 0 ≡ 0

-- each of the n members' balance and line are in order, the sum of all balances is at most 10^15, and unused accounts are 0
pub record Accounts (n : ℕ) (a : List ℤ) : Type 0 where
  pub long : table ≤ length a
  pub holders : (i : ℕ) → i < n → Holder (balance_of a i) (line_of a i)
  pub sum : money_of a ≤ℤ pos most
  pub no_balance : (i : ℕ) → n ≤ i → i < members → balance_of a i ≡ pos 0
  pub no_line : (i : ℕ) → n ≤ i → i < members → line_of a i ≡ pos 0
  pub spare : (k : ℕ) → k < spare_accounts → get_or a (spare_accounts_at + k) (pos 0) ≡ pos 0

-- the waiting payments stand first, without a gap, and every later place is 0
pub record Places (n waiting : ℕ) (p : List ℕ) : Type 0 where
  pub deep : places ≤ length p
  pub words : (k : ℕ) → k < waiting → Payment n (get_or p k 0)
  pub no_payment : (k : ℕ) → waiting ≤ k → k < places → get_or p k 0 ≡ 0

-- of each payer's numbers the waiting ones are the last few, and who is no member gave none
pub record Numbers (c p : List ℕ) : Type 0 where
  pub each : (i : ℕ) → i < members → settled_of c i + length (queue_of i (words_of c p)) ≡ last_of c i
  pub no_number : (i : ℕ) → count_of c ≤ i → i < members → last_of c i ≡ 0

-- the tables hold a state: each list by itself is in order, and the counters fit the places
pub record Holds (T : Tables) : Type 0 where
  pub counters : Counters T.counters
  pub accounts : Accounts (members_in T) T.accounts
  pub places : Places (members_in T) (waiting_in T) T.pays
  pub numbers : Numbers T.counters T.pays
