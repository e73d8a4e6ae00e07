-- Short terms of the page: the sum that demand 2 gives, a member's cover, and a house with its largest set booked.
use Rattle.std.specs.Prelude.{List, ℕ, ℤ, pos, ◌+ℤ◌}
use Rattle.rule.specs.Kernel.{Counts, sum}
use Rattle.rule.specs.House.{House, LargestSet, Same, booked, money}
use Rattle.rule.specs.Day.{Call, deposits}
use Rattle.opening.specs.Open.{entry}

-- the sum of the n opening balances b, plus the deposits among the calls cs
abbrev pub sum_with : ℕ → List ℤ → List Call → ℤ
sum_with n b cs = money n (entry b) +ℤ pos (sum n (deposits cs))

-- the house H of n members has a largest set, and X is H with that set booked
abbrev pub ResolvedTo : ℕ → House → House → Type 0
ResolvedTo n H X = (z : Counts) × LargestSet n H z × Same n (booked n H z) X
