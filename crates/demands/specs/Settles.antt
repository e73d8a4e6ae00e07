-- What a resolution does to tables, and what its verdict says (demand 2).
use Rattle.std.specs.Prelude.{ℕ}
use Rattle.rule.specs.Kernel.{Counts}
use Rattle.rule.specs.House.{LargestSet, Same, booked}
use Rattle.rule.specs.Verdict.{Says}
use Rattle.tables.specs.Layout.{Tables, members_in, house_in}

-- the tables T became W: the largest set of the house in T was booked, and v says of that house what document 01's verdict says
pub record Settles (T W : Tables) (v : ℕ) : Type 0 where
  pub set : Counts
  pub largest : LargestSet (members_in T) (house_in T) set
  pub books : Same (members_in T) (booked (members_in T) (house_in T) set) (house_in W)
  pub says : Says (members_in T) (house_in T) v
