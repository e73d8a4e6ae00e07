-- Tables are the same where each of the three lists is.
use mathlib.Core.Path.{◌≡◌}
use mathlib.Core.List.{List}
use Prim.Native.Nat.{ℕ}
use lib.IntN.{ℤ}
use Rattle.tables.specs.Layout.{tables}

pub tables-same : {a b : List ℤ} {c d p q : List ℕ} → a ≡ b → c ≡ d → p ≡ q → tables a c p ≡ tables b d q
tables-same e f g i = tables (e i) (f i) (g i)
