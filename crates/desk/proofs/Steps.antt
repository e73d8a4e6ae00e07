-- A line that is read, and what answering it leaves.
use mathlib.Core.Path.{◌≡◌, sym, subst}
use mathlib.Core.List.{List}
use Prim.Native.Nat.{ℕ, ◌≤◌}
use native.Mathlib.Omega.{arith}
use lib.ListN.{get_or}
use Rattle.dayfile.specs.Entries.{SmallEntry, Entry}
use Rattle.dayfile.specs.Reading.{Tells, Read}
use Rattle.dayfile.specs.declared.Entry.{Entry as Answer}
use Rattle.dayfile.proofs.Entries.{entry-small}
use Rattle.dayfile.specs.Lines.{Line, text, long}
use Rattle.night.specs.declared.Stage.{Stage}
use Rattle.night.specs.declared.Does.{Does}
use Rattle.tables.specs.Sizes.{last_number}
use Rattle.tables.specs.Layout.{Tables}
use Rattle.night.specs.Lines.{done_by, does_of}
use Rattle.night.specs.Stands.{StageStands}
use Rattle.night.proofs.Kept.{Kept, does-kept}
use Rattle.dayfile.specs.Entries.{most_lines}
use Rattle.desk.specs.Sheet.{entry_in}

-- what is read of a line is small enough for the night
pub line_read : (l : Line) {e : Answer} {vs : List ℕ} → Tells e vs (entry_in l) → Read e vs
line_read l {e} {vs} t = record { small = subst SmallEntry (sym t.means) (go l); few = t.few }
  where
    go : (l : Line) → SmallEntry (entry_in l)
    go (text s) = entry-small s
    go long = tt

-- what the line did suits the stage behind it
pub did-kept : (n : ℕ) (g : Stage) (t : Tables) (e : Entry) (r : Does) (u : Tables) → n ≤ most_lines → ((i : ℕ) → get_or t.counters i 0 ≤ last_number)
    → StageStands g t
    → done_by r u.accounts u.counters u.pays ≡ does_of n g t e → Kept (done_by r u.accounts u.counters u.pays)
did-kept n g t e r u few w s q = rw q (does-kept n (omega arith) g t e w s)
