-- The lines of a file, over all its bytes (document 01, "The day file and the sheet"): each ended by byte 10, which the last may lack; at
-- most 400 bytes before the byte 10, and a longer line is one long line.
use Rattle.std.specs.Prelude.{ℕ, cond, List, [], ◌∷◌, ◌++◌, ltb, eqb, length}

-- the most bytes of a line
abbrev pub most_bytes : ℕ
most_bytes = 400

-- a line with its bytes, or one that has too many
pub data Line : Type 0 where
  text : List ℕ → Line
  long : Line

-- the line that has these bytes
abbrev pub judge : List ℕ → Line
judge u = cond (ltb most_bytes (length u)) long (text u)

-- the last line, which no byte 10 ends: none if it is empty
abbrev pub last : List ℕ → List Line
last [] = []
last (b ∷ u) = judge (b ∷ u) ∷ []

-- the lines of a file whose first line begins with u
unfoldable pub lines_from : List ℕ → List ℕ → List Line
lines_from u [] = last u
lines_from u (b ∷ s) = cond (eqb b 10) (judge u ∷ lines_from [] s) (lines_from (u ++ (b ∷ [])) s)

-- the lines of a file
abbrev pub lines_of : List ℕ → List Line
lines_of s = lines_from [] s
