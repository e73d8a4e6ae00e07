-- What the tables hold at each stage, and the ranges of what is said.
use Rattle.std.specs.Prelude.{List, [], ◌∷◌, ℕ, ◌≤◌, ◌<◌, length}
use Rattle.tables.specs.Sizes.{members, places, table}
use Rattle.tables.specs.Layout.{Tables, count_of}
use Rattle.tables.specs.Holds.{Holds}
use Rattle.dayfile.specs.Entries.{SmallOpening}
use Rattle.dayfile.specs.Reading.{opening_meant}
use Rattle.dayfile.specs.declared.Entry.{Entry}
use Rattle.dayfile.specs.declared.Entry.TheVariants as E
use Rattle.sheet.specs.declared.Says.{Says}
use Rattle.sheet.specs.Room.{Ranges}
use Rattle.night.specs.declared.Stage.{Stage}
use Rattle.night.specs.declared.Stage.TheVariants as G

-- the tables are long enough
pub record Sized (t : Tables) : Type 0 where
  pub long : table ≤ length t.accounts
  pub broad : table ≤ length t.counters
  pub deep : places ≤ length t.pays

-- k of the count members, 1 to 64, were given
pub record Giving (count k : ℕ) (t : Tables) : Type 0 where
  pub few : count ≤ members
  pub next : k < count
  pub sized : Sized t

-- a state, of which k members were told
pub record Telling (k : ℕ) (t : Tables) : Type 0 where
  pub told : k ≤ count_of t.counters
  pub holds : Holds t

-- from the day on the tables hold a state
abbrev pub StageStands : Stage → Tables → Type 0
StageStands G.House t = Sized t
StageStands (G.Members count k) t = Giving count k t
StageStands G.Day t = Holds t
StageStands (G.Ending k) t = Telling k t
StageStands G.Over t = Unit

-- the numbers of a member line have at most 18 digits
abbrev pub SmallMember : Entry → Type 0
SmallMember (E.Opening o) = SmallOpening (opening_meant o)
SmallMember (E.Day d) = Unit
SmallMember E.End = Unit
SmallMember E.Bad = Unit

-- each line that is said is in its ranges
abbrev pub SaidRanges : List Says → Type 0
SaidRanges [] = Unit
SaidRanges (s ∷ ss) = Ranges s × SaidRanges ss
