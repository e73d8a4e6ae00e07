-- One turn after the other: what a turn makes of the desk, and where it stops. A turn says the next line of the end, or reads the next line.
use Rattle.std.specs.Prelude.{Bool, cond, not, ◌&&◌, ◌||◌, List, [], ◌∷◌, ℕ, ltb, length}
use Rattle.dayfile.specs.Chunks.{nothing_held, held_line, Fed, feed_of, finish}
use Rattle.sheet.specs.Room.{has_room}
use Rattle.night.specs.declared.Stage.{Stage}
use Rattle.night.specs.Stages.{is_ending, is_over}
use Rattle.desk.specs.Sheet.{Night, finished, stopped, answered, step_of, closed}
use Rattle.desk.specs.Desk.{Desk, end_said, eat_turn}

-- ---- one turn

-- a turn that says the next line of the end
abbrev pub end_turn : Desk → Desk
end_turn d = record { rest = d.rest; night = end_said d.night; held = d.held }

-- a turn while there is input
abbrev pub turn_of : Desk → Desk
turn_of d = cond (is_ending d.night.stage) (end_turn d) (eat_turn d)

-- the last line of the input, if no byte 10 ended it; without one, a night that is not over is refused as line 0
abbrev pub last_night : List ℕ → Desk → Night
last_night [] d = stopped 0 d.night
last_night (b ∷ u) d = answered d.night (held_line d.held)

-- a turn that does so
abbrev pub last_turn : Desk → Desk
last_turn d = record { rest = d.rest; night = last_night d.held.bytes d; held = nothing_held }

-- a turn at the end of the input
abbrev pub close_turn : Desk → Desk
close_turn d = cond (is_ending d.night.stage) (end_turn d) (last_turn d)

-- ---- where it stops

-- lines of the end are to be said, or the night is not over and there are bytes
abbrev pub is_on : Stage → Bool → Bool
is_on g more = is_ending g || (not (is_over g) && more)

-- with n bytes of output, while there is input,
abbrev pub goes_on : ℕ → Desk → Bool
goes_on n d = has_room n (length d.night.sheet) && is_on d.night.stage (ltb 0 (length d.rest))

-- and at its end
abbrev pub closes_on : ℕ → Desk → Bool
closes_on n d = has_room n (length d.night.sheet) && not (is_over d.night.stage)

-- ---- what comes of it

-- what the end has still to say counts as said
abbrev pub fed_of : Desk → Fed Night
fed_of d = record { day = finished d.night; held = d.held }

-- the night once all bytes to come are fed
abbrev pub comes_to : Desk → Fed Night
comes_to d = feed_of step_of d.rest (fed_of d)

-- the sheet if the input ends here
abbrev pub closes_to : Desk → List ℕ
closes_to d = closed (finish step_of (fed_of d))
