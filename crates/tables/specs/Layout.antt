-- What stands where in the three lent lists: a (accounts), c (counters) and p (places). See docs/TABLES.md. Members are counted from 0.
use Rattle.std.specs.Prelude.{List, ℕ, ◌+◌, ◌*◌, ◌-◌, ℤ, pos, ◌+ℤ◌, get_or, take}
use Rattle.rule.specs.Ints.{up}
use Rattle.rule.specs.House.{House, money}
use Rattle.rule.specs.Table.{queue_of}
use Rattle.tables.specs.Sizes.{members, table}

-- ---- where the blocks begin, one entry for each of 64 members

-- the accounts: balances first, then lines; the rest is spare
abbrev pub lines_at : ℕ
lines_at = members

abbrev pub spare_accounts_at : ℕ
spare_accounts_at = 2 * members

abbrev pub spare_accounts : ℕ
spare_accounts = table - spare_accounts_at

-- the counters: single ones first, how many members and how many payments wait; the rest of that block is spare
abbrev pub members_at : ℕ
members_at = 0

abbrev pub waiting_at : ℕ
waiting_at = 1

abbrev pub spare_singles_at : ℕ
spare_singles_at = 2

abbrev pub spare_singles : ℕ
spare_singles = members - spare_singles_at

-- then last accepted numbers, then how many were settled; the rest is spare
abbrev pub lasts_at : ℕ
lasts_at = members

abbrev pub settled_at : ℕ
settled_at = 2 * members

abbrev pub spare_counters_at : ℕ
spare_counters_at = 3 * members

abbrev pub spare_counters : ℕ
spare_counters = table - spare_counters_at

-- ---- what stands there

-- how many members the house has
abbrev pub count_of : List ℕ → ℕ
count_of c = get_or c members_at 0

-- how many payments wait
abbrev pub waiting_of : List ℕ → ℕ
waiting_of c = get_or c waiting_at 0

-- the last number that was accepted of member i
abbrev pub last_of : List ℕ → ℕ → ℕ
last_of c i = get_or c (lasts_at + i) 0

-- how many payments of member i were settled
abbrev pub settled_of : List ℕ → ℕ → ℕ
settled_of c i = get_or c (settled_at + i) 0

-- how many payments of member i wait
abbrev pub waits_of : List ℕ → ℕ → ℕ
waits_of c i = last_of c i - settled_of c i

abbrev pub balance_of : List ℤ → ℕ → ℤ
balance_of a i = get_or a i (pos 0)

abbrev pub line_of : List ℤ → ℕ → ℤ
line_of a i = get_or a (lines_at + i) (pos 0)

-- how far below zero the balance of member i may go: its line
abbrev pub leeway_of : List ℤ → ℕ → ℤ
leeway_of a i = line_of a i

-- what member i can pay: balance and leeway
abbrev pub cover_of : List ℤ → ℕ → ℤ
cover_of a i = balance_of a i +ℤ leeway_of a i

-- the waiting payments
abbrev pub words_of : List ℕ → List ℕ → List ℕ
words_of c p = take (waiting_of c) p

-- the sum of all balances
abbrev pub money_of : List ℤ → ℤ
money_of a = money members (balance_of a)

-- the three lent lists together
pub record Tables : Type 0 where
  pub accounts : List ℤ
  pub counters : List ℕ
  pub pays : List ℕ

abbrev pub tables : List ℤ → List ℕ → List ℕ → Tables
tables a c p = record { accounts = a; counters = c; pays = p }

abbrev pub members_in : Tables → ℕ
members_in T = count_of T.counters

abbrev pub waiting_in : Tables → ℕ
waiting_in T = waiting_of T.counters

abbrev pub words_in : Tables → List ℕ
words_in T = words_of T.counters T.pays

-- the house that the lists hold, as the rule speaks of it
abbrev pub house_of : List ℤ → List ℕ → List ℕ → House
house_of a c p = record { line = λ i. up (line_of a i); balance = balance_of a; queue = λ i. queue_of i (words_of c p) }

abbrev pub house_in : Tables → House
house_in T = house_of T.accounts T.counters T.pays
