-- An opening in the day file's words: a house line, and then a member line for each member, in order.
use Rattle.std.specs.Prelude.{◌≡◌, List, [], ◌∷◌, ℕ, ◌+◌, ℤ, length}
use Rattle.dayfile.specs.Entries as E
use Rattle.dayfile.specs.Entries.{Entry}
use Rattle.dayfile.specs.Lines.{Line}
use Rattle.desk.specs.Sheet.{entry_in}

-- what some lines say
abbrev pub entries_in : List Line → List Entry
entries_in [] = []
entries_in (l ∷ ls) = entry_in l ∷ entries_in ls

-- member lines behind k others, with these balances and lines
abbrev pub member_lines : ℕ → List (ℤ × ℕ) → List Entry
member_lines k [] = []
member_lines k (p ∷ ps) = E.opening (E.member (k + 1) p.0 p.1) ∷ member_lines (k + 1) ps

-- a house line with its count, and as many member lines, numbered from 1
pub record Opening (ls : List Line) : Type 0 where
  pub members : List (ℤ × ℕ)
  pub lines : entries_in ls ≡ E.opening (E.house (length members)) ∷ member_lines 0 members
