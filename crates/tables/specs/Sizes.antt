-- The fixed numbers of the house (document 01, "What a house holds"). The code has each once too, as a constant of the house, and
-- `tables::tied` promises that they are the same.
use Rattle.std.specs.Prelude.{ℕ, ◌+◌, ◌*◌}

-- at most so many members
abbrev pub members : ℕ
members = 64

-- at most so many payments wait
abbrev pub places : ℕ
places = 2048

-- the least length of the accounts, and of the counters
abbrev pub table : ℕ
table = 512

-- the least length of all three as bytes: 8 bytes an account, 4 a counter, 8 a place
abbrev pub bytes : ℕ
bytes = table * 8 + table * 4 + places * 8

-- an amount and a deposit are at most this
abbrev pub most_amount : ℕ
most_amount = 1_000_000_000_000

-- a line is at most this
abbrev pub most_line : ℕ
most_line = 1_000_000_000_000

-- the sum of all balances is at most this
abbrev pub most : ℕ
most = 1_000_000_000_000_000

-- one balance is at most this
abbrev pub highest : ℕ
highest = 2_000_000_000_000_000

-- the last number that a payer can give
abbrev pub last_number : ℕ
last_number = 4_294_967_295
