-- The night of a host that has a file: it hands chunks of any size over, has each fed from where the last call stopped, writes the output
-- out as often as it likes, and closes once all is fed.
use Rattle.std.specs.Prelude.{◌≡◌, List, [], ◌++◌, ℕ}
use Rattle.dayfile.specs.Chunks.{nothing_held}
use Rattle.desk.specs.Sheet.{morning}
use Rattle.session.specs.Stops.{Stops}
use Rattle.desk.specs.Desk.{Desk}
use Rattle.session.specs.Turns.{turn_of, goes_on, close_turn, closes_on}

-- before the first line
abbrev pub first_desk : Desk
first_desk = record { rest = []; night = morning; held = nothing_held }

-- the next chunk is there
abbrev pub handed : List ℕ → Desk → Desk
handed chunk d = record { rest = chunk; night = d.night; held = d.held }

-- what was written into the output is taken away
abbrev pub cleared : Desk → Desk
cleared d = record { rest = d.rest; night = record { lines = d.night.lines; stage = d.night.stage; tables = d.night.tables; sheet = [] }; held = d.held }

-- of a file: the bytes that were written out, where the night stands, and the bytes that were not yet handed over
pub data Session (file : List ℕ) : List ℕ → Desk → List ℕ → Type 0 where
  begun : Session file [] first_desk file
  hands : {w : List ℕ} {d : Desk} (chunk later : List ℕ) → Session file w d (chunk ++ later) → d.rest ≡ [] → Session file w (handed chunk d) later
  feeds : {w : List ℕ} {d : Desk} {later : List ℕ} (n : ℕ) (e : Desk) → Session file w d later → Stops turn_of (goes_on n) d e → Session file w e later
  writes : {w : List ℕ} {d : Desk} {later : List ℕ} → Session file w d later → Session file (w ++ d.night.sheet) (cleared d) later
  closes : {w : List ℕ} {d : Desk} (n : ℕ) (e : Desk) → Session file w d [] → d.rest ≡ [] → Stops close_turn (closes_on n) d e → Session file w e []
