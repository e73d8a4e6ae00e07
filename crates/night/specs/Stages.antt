-- Where the night stands: what a stage has still to say on the sheet, the stage behind that, and whether the night is over. What a line says
-- behind its first lines is said by the stage after it, line by line, as the output has room.
use Rattle.std.specs.Prelude.{Bool, true, false, List, [], drop}
use Rattle.sheet.specs.declared.Says.{Says}
use Rattle.tables.specs.Layout.{Tables}
use Rattle.night.specs.declared.Stage.{Stage}
use Rattle.night.specs.declared.Stage.TheVariants as G
use Rattle.night.specs.Lines.{end_says, end_next}

-- the night is over
abbrev pub is_over : Stage → Bool
is_over G.House = false
is_over (G.Members count k) = false
is_over G.Day = false
is_over (G.Ending k) = false
is_over G.Over = true

-- lines of the end are still to be said
abbrev pub is_ending : Stage → Bool
is_ending G.House = false
is_ending (G.Members count k) = false
is_ending G.Day = false
is_ending (G.Ending k) = true
is_ending G.Over = false

-- what a stage has still to say: at `end`, the lines behind the first k
abbrev pub rest_says : Stage → Tables → List Says
rest_says G.House t = []
rest_says (G.Members count k) t = []
rest_says G.Day t = []
rest_says (G.Ending k) t = drop k (end_says t)
rest_says G.Over t = []

-- the stage behind the next of these lines,
abbrev pub next_stage : Stage → Tables → Stage
next_stage G.House t = G.House
next_stage (G.Members count k) t = G.Members count k
next_stage G.Day t = G.Day
next_stage (G.Ending k) t = end_next t.counters k
next_stage G.Over t = G.Over

-- and behind all of them
abbrev pub said_all : Stage → Stage
said_all G.House = G.House
said_all (G.Members count k) = G.Members count k
said_all G.Day = G.Day
said_all (G.Ending k) = G.Over
said_all G.Over = G.Over
