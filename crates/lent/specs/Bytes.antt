-- The house in lent bytes: where its three lists stand, and which lent slices are long enough (docs/BYTES.md).
use Rattle.std.specs.Prelude.{Bool, cond, ◌&&◌, List, ℕ, ◌+◌, ◌*◌, ◌/◌, ◌%◌, eqb, leb, ℤ, length}
use Rattle.std.specs.Int.{w64}
use Rattle.std.proofs.Common.{to_z, of_z}
use Rattle.tables.specs.Sizes.{members, places, table, bytes}
use Rattle.tables.specs.Layout.{Tables, tables}
use Rattle.words.specs.Row.{row_at, put_row, as_it_is}

-- ---- the tables: the accounts, 8 bytes each, then the counters, 4 bytes each, then the places, 8 bytes each

-- the byte where the counters begin, and the places
abbrev pub counters_from : ℕ
counters_from = table * 8

abbrev pub places_from : ℕ
places_from = counters_from + table * 4

-- the accounts in the bytes s
abbrev pub accounts_in : List ℕ → List ℤ
accounts_in s = row_at (to_z w64) 8 table s 0

-- the counters
abbrev pub counters_in : List ℕ → List ℕ
counters_in s = row_at as_it_is 4 table s counters_from

-- the places
abbrev pub pays_in : List ℕ → List ℕ
pays_in s = row_at as_it_is 8 places s places_from

-- the bytes s with the accounts a, the counters c and the places p in them, and no other byte changed
abbrev pub with_lists : List ℕ → List ℤ → List ℕ → List ℕ → List ℕ
with_lists s a c p = put_row as_it_is 8 (put_row as_it_is 4 (put_row (of_z w64) 8 s 0 a) counters_from c) places_from p

-- the three lists in the bytes, and the bytes with three lists in them
abbrev pub tables_in : List ℕ → Tables
tables_in s = tables (accounts_in s) (counters_in s) (pays_in s)

abbrev pub with_tables : List ℕ → Tables → List ℕ
with_tables s T = with_lists s T.accounts T.counters T.pays

-- tables of n bytes are long enough, and so is an answer of m bytes of which least are needed
abbrev pub roomy : ℕ → ℕ → ℕ → Bool
roomy n m least = leb bytes n && leb least m

-- ---- lent lists

-- how many numbers of w bytes n bytes hold, to the byte: none if that leaves a rest, or if they are more than a house has members. No
-- house has none, so a list of none is one of the wrong length.
abbrev pub entries : ℕ → ℕ → ℕ
entries w n = cond (eqb (n % w) 0 && leb (n / w) members) (n / w) 0

-- the counts in the bytes t, 2 bytes each
abbrev pub counts_in : List ℕ → List ℕ
counts_in t = row_at as_it_is 2 (entries 2 (length t)) t 0

-- the balances or lines in the bytes t, 8 bytes each
abbrev pub signed_in : List ℕ → List ℤ
signed_in t = row_at (to_z w64) 8 (entries 8 (length t)) t 0
