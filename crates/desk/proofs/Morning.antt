-- The tables before the first line.
use Prim.Native.Nat.{ℕ}
use native.Mathlib.Omega.{arith}
use lib.IntN.{pos}
use lib.ListN.{length-replicate}
use Rattle.tables.specs.Sizes.{places, table}
use Rattle.night.specs.Stands.{Sized}
use Rattle.desk.specs.Sheet.{morning}

-- they are long enough
pub morning-sized : Sized morning.tables
morning-sized = record {
  long = rw (length-replicate table (pos 0)) (omega arith);
  broad = rw (length-replicate {A = ℕ} table 0) (omega arith);
  deep = rw (length-replicate {A = ℕ} places 0) (omega arith);
}
