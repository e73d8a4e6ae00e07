-- The largest allowed set, computed by document 003's method: from all payments that wait, take the last one off a short member, until
-- none is short. n is the number of members, H the house, z a set of payments as counts, i a member.
use Rattle.std.specs.Prelude.{Bool, true, false, ℕ, zero, suc, ltb, pos}
use Rattle.std.specs.Int.Signed.{lt_z}
use Rattle.rule.specs.Kernel.{Counts, lower, sum}
use Rattle.rule.specs.House.{House, waits, booked, cover}

-- member i is short if z is booked: its cover then is below zero
abbrev pub short : ℕ → House → Counts → ℕ → Bool
short n H z i = lt_z (cover (booked n H z) i) (pos 0)

-- the first of 0 to n - 1 of which f is true, or n where it is true of none
unfoldable pub first_of : ℕ → (ℕ → Bool) → ℕ
first_of zero f = 0
first_of (suc n) f = elim (f 0) [ true ↦ 0 | false ↦ suc (first_of n (λ i. f (suc i))) ]

-- z with one payment off the first short member, and so on until none is short, or k are off
unfoldable pub trimmed : ℕ → House → ℕ → Counts → Counts
unfolding first_of lower
trimmed n H zero z = z
trimmed n H (suc k) z =
    let j = first_of n (short n H z) in
    elim (ltb j n) [ true ↦ trimmed n H k (lower z j) | false ↦ z ]

-- the counts of the largest allowed set: what is left of all that waits
unfoldable pub resolution : ℕ → House → Counts
unfolding trimmed
resolution n H = trimmed n H (sum n (waits H)) (waits H)
