-- Bytes that hold a state which can be stored and read back.
use Rattle.std.specs.Prelude.{◌≡◌, List, ℕ, ◌≤◌, ◌<◌, length}
use Rattle.tables.specs.Sizes.{members, places, table, bytes, last_number}
use Rattle.tables.specs.Layout.{Tables, last_of}
use Rattle.tables.specs.Holds.{Holds}
use Rattle.lent.specs.Bytes.{tables_in}

-- lists of the least lengths, as they are read out of bytes
pub record Least (T : Tables) : Type 0 where
  pub accounts : length T.accounts ≡ table
  pub counters : length T.counters ≡ table
  pub pays : length T.pays ≡ places

-- the lists of a state, with the last numbers at most 4,294,967,295
pub record Kept (T : Tables) : Type 0 where
  pub holds : Holds T
  pub least : Least T
  pub lasts : (i : ℕ) → i < members → last_of T.counters i ≤ last_number

-- bytes that hold a state, and can be stored again
pub record Stands (s : List ℕ) : Type 0 where
  pub room : bytes ≤ length s
  pub kept : Kept (tables_in s)
