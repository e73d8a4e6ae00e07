-- The night as the code holds it: where it begins, and where it goes on.
use Rattle.std.specs.Prelude.{Bool, not, ◌&&◌, ℕ, ltb}
use Rattle.sheet.specs.Room.{has_room}
use Rattle.night.specs.declared.Stage.TheVariants as G
use Rattle.night.specs.Stages.{is_over}
use Rattle.desk.specs.declared.State.{State}
use Rattle.desk.specs.declared.Turn.{Turn}
use Rattle.desk.specs.States.{state_at}
use Rattle.session.specs.Turns.{is_on}

-- before the first line
abbrev pub dawn : State
dawn = state_at 0 G.House 0

-- whether it goes on at a place of a chunk of n bytes, with so many bytes of output,
abbrev pub goes_at : ℕ → ℕ → Turn → Bool
goes_at n room t = has_room room t.state.used && is_on t.state.stage (ltb t.at n)

-- and at the end of the input
abbrev pub closes_at : ℕ → State → Bool
closes_at room s = has_room room s.used && not (is_over s.stage)
