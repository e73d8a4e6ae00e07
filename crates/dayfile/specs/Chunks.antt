-- The same in chunks of any size: what is held between two of them, what eating a chunk finds, and what a day makes of the lines.
use Rattle.std.specs.Prelude.{ℕ, suc, ◌+◌, ◌-◌, ◌≤◌, ◌<◌, ◌≡◌, ◌≢◌, Bool, true, false, cond, List, [], ◌∷◌, ◌++◌, ltb, eqb, length, get_or, take, drop}
use Rattle.dayfile.specs.declared.lines.Cut.{Cut}
use Rattle.dayfile.specs.declared.lines.Ate.{Ate}
use Rattle.dayfile.specs.Lines.{most_bytes, Line, text, long}

-- at most 400 bytes of the line that is not ended, and whether there were more
pub record Held : Type 0 where
  pub bytes : List ℕ
  pub over : Bool

-- nothing of a line
abbrev pub nothing_held : Held
nothing_held = record { bytes = []; over = false }

-- one byte more of the line
abbrev pub pushed : ℕ → Held → Held
pushed b h = cond (ltb (length h.bytes) most_bytes) (record { bytes = h.bytes ++ (b ∷ []); over = h.over }) (record { bytes = h.bytes; over = true })

-- the line that ends here
abbrev pub held_line : Held → Line
held_line h = cond h.over long (text h.bytes)

-- what eating finds: whether a line is ended, how many bytes were used, and what is held of the line
pub record Eaten : Type 0 where
  pub done : Bool
  pub used : ℕ
  pub held : Held

-- the same behind one byte more
abbrev pub more : Eaten → Eaten
more e = record { done = e.done; used = suc e.used; held = e.held }

-- what eating these bytes finds, up to and with the end of a line, or all of them
unfoldable pub eat_of : List ℕ → Held → Eaten
eat_of [] h = record { done = false; used = 0; held = h }
eat_of (b ∷ s) h = cond (eqb b 10) (record { done = true; used = 1; held = h }) (more (eat_of s (pushed b h)))

-- what the lent buffer holds
abbrev pub state_of : List ℕ → Cut → Held
state_of buf c = record { bytes = take c.held buf; over = c.is_long }

-- the answer r tells what eating found from place from on, with the buffer as it is after
pub record AteSo (r : Ate) (e : Eaten) (buf : List ℕ) (from : ℕ) : Type 0 where
  pub done : r.is_done ≡ e.done
  pub place : r.at ≡ from + e.used
  pub held : state_of buf r.cut ≡ e.held

-- e is the place of the first byte 10, or the length where there is none
pub record EndAt (s : List ℕ) (e : ℕ) : Type 0 where
  pub within : e ≤ length s
  pub others : (j : ℕ) → j < e → get_or s j 0 ≢ 10
  pub ends : e < length s → get_or s e 0 ≡ 10

-- nothing is held, and the line from place from on ends at e, behind at most 400 bytes
pub record WholeAt (s : List ℕ) (from : ℕ) (c : Cut) (e : ℕ) : Type 0 where
  pub start : from ≤ e
  pub short : e ≤ from + most_bytes
  pub none_held : (buf : List ℕ) → state_of buf c ≡ nothing_held
  pub eaten : eat_of (drop from s) nothing_held ≡ record { done = true; used = e - from + 1; held = record { bytes = take (e - from) (drop from s); over = false } }

-- a day D so far, and what is held of the next line
pub record Fed (D : Type 0) : Type 0 where
  pub day : D
  pub held : Held

-- any day, where step is what a line does to it
module _ {D : Type 0} (step : D → Line → D) where
  -- one byte
  abbrev pub byte_of : ℕ → Fed D → Fed D
  byte_of b f = cond (eqb b 10) (record { day = step f.day (held_line f.held); held = nothing_held }) (record { day = f.day; held = pushed b f.held })

  -- the bytes of one chunk
  unfoldable pub feed_of : List ℕ → Fed D → Fed D
  feed_of [] f = f
  feed_of (b ∷ s) f = feed_of s (byte_of b f)

  -- the line l, if it has a byte
  abbrev pub end_by : List ℕ → D → Line → D
  end_by [] d l = d
  end_by (b ∷ u) d l = step d l

  -- the last line, if no byte 10 ended it
  abbrev pub finish : Fed D → D
  finish f = end_by f.held.bytes f.day (held_line f.held)

  -- lines, one after the other
  unfoldable pub run_of : D → List Line → D
  run_of d [] = d
  run_of d (l ∷ ls) = run_of (step d l) ls

  -- chunks, one after the other
  unfoldable pub feed_all : List (List ℕ) → Fed D → Fed D
  feed_all [] f = f
  feed_all (a ∷ cs) f = feed_all cs (feed_of a f)

-- the whole file
abbrev pub joined : List (List ℕ) → List ℕ
joined [] = []
joined (a ∷ cs) = a ++ joined cs
