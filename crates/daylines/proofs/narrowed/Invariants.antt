-- `daylines::narrowed` meets its contract. The invariant: the first i counts stand in the array, in 16 bits.
use Rattle.daylines.specs.Calls.{capped}
use lib.ListN.{length, get_or}
use Rattle.tables.specs.Sizes.{members}
use Prim.Native.Nat.{ℕ, ◌<◌}
use mathlib.Core.Path.{◌≡◌}
use Rattle.daylines.proofs.narrowed.Given as goal

abbrev pub invariant-loop-i : goal.invariant-loop-i
invariant-loop-i l = (length l.k ≡ members) × ((j : ℕ) → j < l.i → get_or l.k j 0 ≡ capped (get_or l.counts j 0))
