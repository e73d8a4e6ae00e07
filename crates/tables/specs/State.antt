-- Which lent lists hold a state, by document 01's list: a test for each part, and the state is all of them.
use Rattle.std.specs.Prelude.{Bool, true, not, cond, ◌&&◌, List, ℕ, zero, suc, ◌+◌, eqb, leb, ltb, ℤ, pos, ◌+ℤ◌, length, get_or}
use Rattle.std.specs.Int.Signed.{le_z}
use Rattle.rule.specs.Payment.{payer_of, payee_of, amount_of, flags_of}
use Rattle.rule.specs.Table.{queue_of}
use Rattle.tables.specs.Sizes.{members, places, table, most, highest, most_amount, most_line}
use Rattle.tables.specs.Layout.{Tables, members_in, waiting_in, count_of, waiting_of, last_of, settled_of, balance_of, line_of, money_of, words_of}
use Rattle.tables.specs.Layout.{spare_accounts, spare_accounts_at, spare_counters, spare_counters_at, spare_singles, spare_singles_at}

-- f holds of each number below n
unfoldable pub every : (ℕ → Bool) → ℕ → Bool
every f zero = true
every f (suc n) = every f n && f n

-- ---- accounts

abbrev pub is_zero : ℤ → Bool
is_zero z = le_z z (pos 0) && le_z (pos 0) z

-- a member's line is 0 to the most, and its balance at least minus the line. That the balance is at most the highest is no rule of
-- its own: it follows from the others and the sum of all.
abbrev pub holder_ok : ℤ → ℤ → Bool
holder_ok b l = le_z (pos 0) l && (le_z l (pos most_line) && (le_z b (pos highest) && le_z (pos 0) (b +ℤ l)))

-- an unused account is 0
abbrev pub account_ok : ℕ → ℕ → ℤ → ℤ → Bool
account_ok n i b l = cond (ltb i n) (holder_ok b l) (is_zero b && is_zero l)

abbrev pub account_at : ℕ → List ℤ → ℕ → Bool
account_at n a i = account_ok n i (balance_of a i) (line_of a i)

-- the spare blocks are 0
abbrev pub spare_at : List ℤ → ℕ → Bool
spare_at a k = is_zero (get_or a (spare_accounts_at + k) (pos 0))

unfoldable pub accounts_ok : ℕ → List ℤ → Bool
accounts_ok n a = every (account_at n a) members && (every (spare_at a) spare_accounts && le_z (money_of a) (pos most))

-- ---- counters

-- the counter k behind a place is 0
abbrev pub zero_at : List ℕ → ℕ → ℕ → Bool
zero_at c from k = eqb (get_or c (from + k) 0) 0

-- 1 to 64 members, at most 2,048 payments waiting, and the spare ones 0
unfoldable pub counters_ok : List ℕ → Bool
counters_ok c =
    leb 1 (count_of c)
    && (leb (count_of c) members && (leb (waiting_of c) places && (every (zero_at c spare_singles_at) spare_singles && every (zero_at c spare_counters_at) spare_counters)))

-- ---- places

-- the word of a payment of 1 to the most between two of the n members
abbrev pub word_ok : ℕ → ℕ → Bool
word_ok n w =
    ltb (payer_of w) n
    && (ltb (payee_of w) n && (not (eqb (payer_of w) (payee_of w)) && (eqb (flags_of w) 0 && (leb 1 (amount_of w) && leb (amount_of w) most_amount))))

-- the waiting ones stand first, without a gap, and every later place is 0
abbrev pub place_ok : ℕ → ℕ → ℕ → ℕ → Bool
place_ok n waiting k w = cond (ltb k waiting) (word_ok n w) (eqb w 0)

abbrev pub place_at : ℕ → ℕ → List ℕ → ℕ → Bool
place_at n waiting p k = place_ok n waiting k (get_or p k 0)

unfoldable pub places_ok : ℕ → ℕ → List ℕ → Bool
places_ok n waiting p = every (place_at n waiting p) places

-- ---- queues

-- what was settled of member i and the w that wait are what was accepted; who is no member accepted nothing
abbrev pub queue_ok : ℕ → ℕ → ℕ → ℕ → ℕ → Bool
queue_ok n i w last settled = eqb (settled + w) last && cond (ltb i n) true (eqb last 0)

abbrev pub queue_at : List ℕ → List ℕ → ℕ → Bool
queue_at c p i = queue_ok (count_of c) i (length (queue_of i (words_of c p))) (last_of c i) (settled_of c i)

unfoldable pub queues_ok : List ℕ → List ℕ → Bool
queues_ok c p = every (queue_at c p) members

-- ---- the state

-- the lists are long enough; longer ones are fine
abbrev pub sized : List ℤ → List ℕ → List ℕ → Bool
sized a c p = leb table (length a) && (leb table (length c) && leb places (length p))

unfoldable pub is_state : Tables → Bool
is_state T =
    sized T.accounts T.counters T.pays
    && (counters_ok T.counters
    && (accounts_ok (members_in T) T.accounts
    && (places_ok (members_in T) (waiting_in T) T.pays && queues_ok T.counters T.pays)))
