-- What the line that is read gives, at the stage that is found.
use mathlib.Core.Path.{◌≡◌, refl, subst}
use mathlib.Core.List.{List, []}
use Prim.Native.Nat.{ℕ, ◌≤◌}
use lib.ListN.{length}
use lib.Seq.{length-take-le}
use native.Mathlib.Omega.{arith}
use Rattle.tables.specs.Sizes.{members}
use Rattle.tables.specs.Layout.{Tables}
use Rattle.dayfile.specs.Reading.{meant, day_counts, Read}
use Rattle.dayfile.specs.declared.DayLine.{DayLine}
use Rattle.dayfile.specs.declared.DayLine.TheVariants as D
use Rattle.dayfile.specs.declared.Entry.{Entry}
use Rattle.dayfile.specs.declared.Entry.TheVariants as E
use Rattle.night.specs.Lines.{house_does}

-- in the opening no counts are looked at
pub house-any : (n : ℕ) (t : Tables) (e : Entry) (vs : List ℕ) → house_does n t (meant e []) ≡ house_does n t (meant e vs)
house-any n t (E.Opening o) vs = refl
house-any n t (E.Day d) vs = refl
house-any n t E.End vs = refl
house-any n t E.Bad vs = refl

-- ---- the day

-- the counts of a line stand in the lent list, and are no more than members
pub read-counts : {e : Entry} {vs : List ℕ} (d : DayLine) → e ≡ E.Day d → Read e vs → (day_counts d ≤ members) × (day_counts d ≤ length vs)
read-counts {e} {vs} d q r = go d (subst (λ (e : Entry). Read e vs) q r)
  where
    go : (d : DayLine) → Read (E.Day d) vs → (day_counts d ≤ members) × (day_counts d ≤ length vs)
    go (D.Pay k a b c x) r = (omega arith, omega arith)
    go (D.Deposit a b) r = (omega arith, omega arith)
    go (D.Release a) r = (omega arith, omega arith)
    go (D.Group m) r = (omega (arith, r.small.2, length-take-le m vs r.few), r.few)
    go D.Resolve r = (omega arith, omega arith)
