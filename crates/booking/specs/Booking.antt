-- The lent lists after a set of payments was booked: all of it at once. One definition serves a release, a group and a resolution.
use Rattle.std.specs.Prelude.{◌≡◌, Bool, ◌≢◌, List, ℕ, ◌+◌, ◌-◌, ◌<◌, ℤ, pos, ◌+ℤ◌, length, get_or, set}
use Rattle.std.specs.Int.Signed.{le_z}
use Rattle.rule.specs.Lists.{fill, fill_at}
use Rattle.rule.specs.Kernel.{Counts, none, put, sum, Under}
use Rattle.rule.specs.Payment.{payer_of}
use Rattle.rule.specs.House.{waits, position}
use Rattle.rule.specs.Table.{staying}
use Rattle.tables.specs.Sizes.{members, places}
use Rattle.tables.specs.Layout.{Tables, tables, settled_at, members_in, words_in, house_in, waiting_of, settled_of, leeway_of}
use Rattle.tables.specs.State.{every}
use Rattle.tables.specs.Holds.{Holds}

-- the counts that a list gives: 0 past its end
abbrev pub listed : List ℕ → Counts
listed k i = get_or k i 0

-- the head of member i alone
abbrev pub head_alone : ℕ → Counts
head_alone i = put none i 1

-- what left is settled, and waits no more
abbrev pub counters_booked : List ℕ → Counts → List ℕ
counters_booked c z = set (fill_at settled_at members (λ i. settled_of c i + z i) c) 1 (waiting_of c - sum members z)

-- the tables with z booked: each balance is where z takes it, and the payments that stay have closed up; every later place is
-- 0, and the rest of the accounts and counters is as it was
unfoldable pub booked_in : Tables → Counts → Tables
booked_in T z =
    tables
    (fill members (position (members_in T) (house_in T) z) T.accounts)
    (counters_booked T.counters z)
    (fill places (λ k. get_or (staying z (words_in T)) k 0) T.pays)

-- whether each of the n members is covered at these positions: position + line >= 0
abbrev pub covered_at : List ℤ → List ℤ → ℕ → Bool
covered_at positions a i = le_z (pos 0) (get_or positions i (pos 0) +ℤ leeway_of a i)

abbrev pub covered_all : ℕ → List ℤ → List ℤ → Bool
covered_all n positions a = every (covered_at positions a) n

-- a count for each member, and none is above what waits
pub record Counted (T : Tables) (counts : List ℕ) : Type 0 where
  pub holds : Holds T
  pub within : Under members (listed counts) (waits (house_in T))
  pub members : length counts ≡ members

-- these are the positions that the counts lead to
pub record Weighed (T : Tables) (counts : List ℕ) (positions : List ℤ) : Type 0 where
  pub weighs : (i : ℕ) → i < members → get_or positions i (pos 0) ≡ position (members_in T) (house_in T) (listed counts) i
  pub members : length positions ≡ members

-- of the payments at the first n places of p, the first that member i pays stands at place k
pub record HeadAt (n : ℕ) (p : List ℕ) (i k : ℕ) : Type 0 where
  pub within : k < n
  pub payer : payer_of (get_or p k 0) ≡ i
  pub others : (j : ℕ) → j < k → payer_of (get_or p j 0) ≢ i
