-- What the code answers to a line, where the counts of a group stand in a lent list beside the answer.
use Rattle.std.specs.Prelude.{ℕ, ◌≤◌, ◌≡◌, cond, List, [], ◌∷◌, length, take}
use Rattle.dayfile.specs.declared.OpeningLine.{OpeningLine}
use Rattle.dayfile.specs.declared.OpeningLine.TheVariants as O
use Rattle.dayfile.specs.declared.DayLine.{DayLine}
use Rattle.dayfile.specs.declared.DayLine.TheVariants as D
use Rattle.dayfile.specs.declared.Entry.{Entry}
use Rattle.dayfile.specs.declared.Entry.TheVariants as E
use Rattle.dayfile.specs.Fields.{fields_of, same}
use Rattle.dayfile.specs.Entries as entries
use Rattle.dayfile.specs.Entries.{most_counts, member_word, numbers_of, values_of, SmallEntry}

-- a line of the opening,
abbrev pub opening_meant : OpeningLine → entries.OpeningLine
opening_meant (O.House n) = entries.house n
opening_meant (O.Member n b l) = entries.member n b l

-- one of the day, where a group of n has the first n of the list as its counts,
abbrev pub day_meant : DayLine → List ℕ → entries.DayLine
day_meant (D.Pay k a b c d) vs = entries.pay k a b c d
day_meant (D.Deposit a b) vs = entries.deposit a b
day_meant (D.Release a) vs = entries.release a
day_meant (D.Group n) vs = entries.group (take n vs)
day_meant D.Resolve vs = entries.resolve

-- and any entry
abbrev pub meant : Entry → List ℕ → entries.Entry
meant (E.Opening o) vs = entries.opening (opening_meant o)
meant (E.Day d) vs = entries.day (day_meant d vs)
meant E.End vs = entries.end
meant E.Bad vs = entries.bad

-- how many of the list belong to it
abbrev pub day_counts : DayLine → ℕ
day_counts (D.Pay k a b c d) = 0
day_counts (D.Deposit a b) = 0
day_counts (D.Release a) = 0
day_counts (D.Group n) = n
day_counts D.Resolve = 0

abbrev pub counts_left : Entry → ℕ
counts_left (E.Opening o) = 0
counts_left (E.Day d) = day_counts d
counts_left E.End = 0
counts_left E.Bad = 0

-- the answer e, with the lent list beside it, tells the entry l
pub record Tells (e : Entry) (vs : List ℕ) (l : entries.Entry) : Type 0 where
  pub means : meant e vs ≡ l
  pub few : counts_left e ≤ length vs

-- the numbers that a line leaves in the lent list: none for a member, and else those before the first field that is none
abbrev pub left_by : List (List ℕ) → List ℕ
left_by [] = []
left_by (w ∷ fs) = cond (same w member_word) [] (values_of (numbers_of most_counts fs))

abbrev pub left_of : List ℕ → List ℕ
left_of s = left_by (fields_of s)

-- e, with the list beside it, is what some line said
pub record Read (e : Entry) (vs : List ℕ) : Type 0 where
  pub small : SmallEntry (meant e vs)
  pub few : counts_left e ≤ length vs
