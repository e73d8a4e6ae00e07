-- A set of members as one number (document 01, "In answers a set of members is one unsigned 64-bit number"). f tells who stands in it,
-- the members counted from 0, so that member i + 1 of the paper counts as 2^i.
-- There are n members, and s is the number of a set.
use Rattle.std.specs.Prelude.{Bool, cond, ℕ, zero, suc, ◌+◌, ◌^◌, eqb}
use Rattle.std.specs.Int.Count.{count_trailing_zeros}

-- the number of the set
unfoldable pub set_of : ℕ → (ℕ → Bool) → ℕ
set_of zero f = 0
set_of (suc n) f = set_of n f + cond (f n) (2 ^ n) 0

-- how many stand in it
unfoldable pub size_of : ℕ → (ℕ → Bool) → ℕ
size_of zero f = 0
size_of (suc n) f = size_of n f + cond (f n) 1 0

-- the lowest that stands in it, as the paper numbers them, and 0 if none does
unfoldable pub lowest_of : ℕ → (ℕ → Bool) → ℕ
lowest_of zero f = 0
lowest_of (suc n) f = cond (eqb (lowest_of n f) 0) (cond (f n) (suc n) 0) (lowest_of n f)

-- the lowest, read off the number
abbrev pub lowest_in : ℕ → ℕ
lowest_in s = cond (eqb s 0) 0 (count_trailing_zeros 64 s + 1)
