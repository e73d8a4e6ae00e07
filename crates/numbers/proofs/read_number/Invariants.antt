-- `numbers::read_number` meets its contract. The invariant: x is what the digits so far make, so it is below a power of ten, and reading on
-- from it gives what the whole field says.
use Rattle.std.proofs.Common.{◌≡◌, ◌<◌, ◌^◌, drop}
use Rattle.numbers.specs.Numbers.{number_of, digits_from}
use Rattle.numbers.proofs.read_number.Given as goal

abbrev pub invariant-loop-b : goal.invariant-loop-b
invariant-loop-b l = (l.x < 10 ^ l.b-index) × (number_of l.field ≡ digits_from l.x (drop l.b-index l.field))
