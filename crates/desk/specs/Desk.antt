-- A desk: what is to come of a chunk, the night as it stands, and what is held of the next line; what the next line of the end makes of the
-- night, and the next line of the chunk of the desk.
use Rattle.std.specs.Prelude.{cond, List, ◌++◌, ℕ, take, drop}
use Rattle.dayfile.specs.Chunks.{Held, nothing_held, held_line, Eaten, eat_of}
use Rattle.night.specs.Stages.{rest_says, next_stage}
use Rattle.desk.specs.Sheet.{Night, texts_of, answered}

-- between two turns: bytes to come, the night of which the end may have lines to say, and what is held of the next line
pub record Desk : Type 0 where
  pub rest : List ℕ
  pub night : Night
  pub held : Held

-- the next line of the end is said
abbrev pub end_said : Night → Night
end_said d =
    record {
      lines = d.lines;
      stage = next_stage d.stage d.tables;
      tables = d.tables;
      sheet = d.sheet ++ texts_of (take 1 (rest_says d.stage d.tables));
    }

-- bytes are eaten: a line that they end is answered, and one that they do not end is held
abbrev pub eaten_to : Desk → Eaten → Desk
eaten_to d e =
    record {
      rest = drop e.used d.rest;
      night = cond e.done (answered d.night (held_line e.held)) d.night;
      held = cond e.done nothing_held e.held;
    }

-- the next line of the bytes to come, or all of them
abbrev pub eat_turn : Desk → Desk
eat_turn d = eaten_to d (eat_of d.rest d.held)
