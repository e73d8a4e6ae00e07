-- `numbers::put_number` meets its contract. The invariant: the digits that are left, those of y, written into what is there now, give all
-- digits of x written into what was there at first.
use mathlib.Core.Path.{◌≡◌}
use lib.ListN.{length}
use lib.Seq.{sets}
use Rattle.numbers.specs.Numbers.{last_digits, digits_of}
use Rattle.numbers.proofs.put_number.Given as goal

abbrev pub invariant-loop-k : goal.invariant-loop-k
invariant-loop-k l = (length l.out ≡ length l.initial.out) × (sets l.out l.at (last_digits l.k l.y) ≡ sets l.initial.out l.at (digits_of l.x))
