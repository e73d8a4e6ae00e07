-- The sheet of a day file, over all its bytes (document 01, "The day file and the sheet"): the night between lines, what a line makes of
-- it, and the end of the input.
use Rattle.std.specs.Prelude.{cond, List, [], ◌∷◌, ◌++◌, ℕ, ◌+◌, ltb, pos, replicate}
use Rattle.answers.specs.declared.Refusal.TheVariants as R
use Rattle.tables.specs.Sizes.{places, table}
use Rattle.tables.specs.Layout.{Tables, tables}
use Rattle.dayfile.specs.Entries.{most_lines, Entry, bad, entry_of}
use Rattle.dayfile.specs.Lines.{Line, text, long, lines_of}
use Rattle.dayfile.specs.Chunks.{run_of}
use Rattle.sheet.specs.declared.Says.{Says}
use Rattle.sheet.specs.Lines.{text_of}
use Rattle.night.specs.declared.Stage.{Stage}
use Rattle.night.specs.declared.Stage.TheVariants as G
use Rattle.daylines.specs.Calls.{refusal}
use Rattle.night.specs.Lines.{Did, does_of}
use Rattle.night.specs.Stages.{is_over, rest_says, said_all}

-- lines read so far, the stage, the tables, and the sheet so far
pub record Night : Type 0 where
  pub lines : ℕ
  pub stage : Stage
  pub tables : Tables
  pub sheet : List ℕ

-- lines of the sheet, one after the other
abbrev pub texts_of : List Says → List ℕ
texts_of [] = []
texts_of (s ∷ ss) = text_of s ++ texts_of ss

-- the night once all is said that the stage has still to say
abbrev pub finished : Night → Night
finished d = record { lines = d.lines; stage = said_all d.stage; tables = d.tables; sheet = d.sheet ++ texts_of (rest_says d.stage d.tables) }

-- what a line says; one that is too long is bad
abbrev pub entry_in : Line → Entry
entry_in (text s) = entry_of s
entry_in long = bad

-- the night after a line that did r: the lines that it says at once come behind the sheet so far
abbrev pub after_line : Night → Did → Night
after_line d r = record { lines = d.lines + 1; stage = r.stage; tables = r.after; sheet = d.sheet ++ texts_of r.said }

-- bad line n: it is refused, and the night stops
abbrev pub stopped : ℕ → Night → Night
stopped n d = record { lines = d.lines; stage = G.Over; tables = d.tables; sheet = d.sheet ++ text_of (refusal n R.Line) }

-- the night once a line is answered; a line past the most stops it, and once it is over nothing is read
abbrev pub answered : Night → Line → Night
answered d l =
    cond (is_over d.stage) d
    (cond (ltb d.lines most_lines)
    (after_line d (does_of (d.lines + 1) d.stage d.tables (entry_in l)))
    (stopped (d.lines + 1) d))

-- the night after a line and all that is to be said then
abbrev pub step_of : Night → Line → Night
step_of d l = finished (answered d l)

-- before the first line: empty tables
abbrev pub morning : Night
morning = record { lines = 0; stage = G.House; tables = tables (replicate table (pos 0)) (replicate table 0) (replicate places 0); sheet = [] }

-- the sheet at the end of the input: a night that is not over is refused, as line 0
abbrev pub closed : Night → List ℕ
closed d = (cond (is_over d.stage) d (stopped 0 d)).sheet

-- the sheet of a file
abbrev pub sheet_of : List ℕ → List ℕ
sheet_of s = closed (run_of step_of morning (lines_of s))
