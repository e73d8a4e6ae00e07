-- What it says of the lent slices that they are roomy.
use mathlib.Core.Path.{◌≡◌}
use mathlib.Core.Bool.{true}
use Prim.Native.Nat.{ℕ, ◌≤◌}
use lib.Dec.{leb}
use borrow.Author.Tests.{leb-true}
use Rattle.tables.specs.Sizes.{bytes}
use Rattle.tables.proofs.Tests.{and_both}
use Rattle.lent.specs.Bytes.{roomy}

-- lent slices that are long enough have room for the tables, and for the answer
pub lent-room : (m n least : ℕ) → roomy m n least ≡ true → (bytes ≤ m) × (least ≤ n)
lent-room m n least e = let b = and_both (leb bytes m) (leb least n) e in (leb-true bytes m b.0, leb-true least n b.1)
