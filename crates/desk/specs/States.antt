-- The night as the code holds it between two lines: numbers by value, and lent lists.
use Rattle.std.specs.Prelude.{◌≡◌, false, List, ℕ, ◌+◌, ◌-◌, ◌≤◌, take, drop}
use Rattle.dayfile.specs.Lines.{most_bytes}
use Rattle.dayfile.specs.declared.lines.Cut.{Cut}
use Rattle.dayfile.specs.Chunks.{state_of}
use Rattle.night.specs.declared.Stage.{Stage}
use Rattle.night.specs.declared.Stage.TheVariants as G
use Rattle.tables.specs.Sizes.{members}
use Rattle.tables.specs.Layout.{Tables}
use Rattle.dayfile.specs.Entries.{most_lines}
use Rattle.night.specs.Stands.{StageStands}
use Rattle.desk.specs.declared.State.{State}
use Rattle.desk.specs.Sheet.{Night}
use Rattle.desk.specs.Desk.{Desk}

-- the night that a state, the tables and the lent output hold
abbrev pub night_of : State → Tables → List ℕ → Night
night_of s t out = record { lines = s.lines; stage = s.stage; tables = t; sheet = take s.used out }

-- with the bytes to come, and what the lent buffer holds of the next line
abbrev pub desk_of : List ℕ → State → Tables → List ℕ → List ℕ → Desk
desk_of rest s t out buf = record { rest = rest; night = night_of s t out; held = state_of buf s.cut }

-- no line begun
abbrev pub fresh : Cut
fresh = record { held = 0; is_long = false }

-- a state with no line begun
abbrev pub state_at : ℕ → Stage → ℕ → State
state_at n g u = record { lines = n; stage = g; used = u; cut = fresh }

-- at most how many lines the end has: one for each member, and one for the money
abbrev pub most_ending : ℕ
most_ending = members + 1

-- at most how many turns are left, where there are n bytes
abbrev pub turns_left : Stage → ℕ → ℕ
turns_left G.House n = most_ending + 2 + n
turns_left (G.Members count k) n = most_ending + 2 + n
turns_left G.Day n = most_ending + 2 + n
turns_left (G.Ending k) n = most_ending + 1 - k
turns_left G.Over n = 0

-- bytes were written behind the first u of the output, up to v, and none behind those
pub record Grown (u v : ℕ) (out out₁ : List ℕ) : Type 0 where
  pub on : u ≤ v
  pub rest : drop v out₁ ≡ drop v out

-- a state that suits its tables, with n bytes of output
pub record Fit (s : State) (t : Tables) (n : ℕ) : Type 0 where
  pub few : s.lines ≤ most_lines
  pub room : s.used ≤ n
  pub held : s.cut.held ≤ most_bytes
  pub stands : StageStands s.stage t
