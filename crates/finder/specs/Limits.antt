-- How far from zero amounts, balances and positions may be, so that no position leaves the range of an i64. Money is in cents. (These ranges are
-- the finder's own, and wider than the house's.)
use Rattle.std.specs.Prelude.{ℕ, ◌+◌, ℤ}
use Rattle.rule.specs.Ints.{up, down}

-- how far a number is from zero
abbrev pub far : ℤ → ℕ
far z = up z + down z

-- how large an amount may be: 10^13
abbrev pub far_amount : ℕ
far_amount = 10_000_000_000_000

-- how far from zero a balance may be: 2 * 10^15
abbrev pub far_balance : ℕ
far_balance = 2_000_000_000_000_000

-- how far from zero a position may be: 9 * 10^18
abbrev pub far_position : ℕ
far_position = 9_000_000_000_000_000_000
