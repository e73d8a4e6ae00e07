-- The program's steps, and what they make of a session of the night (session/specs/Session.antt): which bytes were read and handed on, and
-- which were written out. r is where the program stood before a step and x where it stands after it; t are the tables.
use Rattle.std.specs.Prelude.{◌≡◌, Bool, true, false, cond, List, [], ◌++◌, ◌⊎◌, ℕ, ◌≤◌, ltb, length, take, drop, Option, Some, None, IfSome}
use Rattle.dayfile.specs.Lines.{most_bytes}
use Rattle.dayfile.specs.Entries.{most_counts}
use Rattle.sheet.specs.Room.{has_room}
use Rattle.tables.specs.Sizes.{places, table}
use Rattle.tables.specs.Layout.{Tables}
use Rattle.night.specs.declared.Stage.{Stage}
use Rattle.desk.specs.declared.State.{State}
use Rattle.night.specs.Stages.{is_over}
use Rattle.desk.specs.Sheet.{sheet_of}
use Rattle.desk.specs.Desk.{Desk}
use Rattle.desk.specs.States.{desk_of, Fit}
use Rattle.session.specs.Session.{Session}
use Rattle.nightloop.specs.declared.Next.{Next}
use Rattle.nightloop.specs.declared.Next.TheVariants as N
use Rattle.nightloop.specs.declared.Run.{Run}

-- ---- the memory

-- the bytes that are read at once, and those of the output that is written at once
abbrev pub out_bytes : ℕ
out_bytes = 4096

-- the chunk, the line buffer, the counts of a group, the tables and the output
pub record Memory (chunk buf counts : List ℕ) (t : Tables) (out : List ℕ) : Type 0 where
  pub bytes : length chunk ≡ out_bytes
  pub line : length buf ≡ most_bytes
  pub slots : length counts ≡ most_counts
  pub accounts : length t.accounts ≡ table
  pub counters : length t.counters ≡ table
  pub pays : length t.pays ≡ places
  pub long : length out ≡ out_bytes

-- the bytes that were read and are not eaten
abbrev pub rest_in : Run → List ℕ → List ℕ
rest_in r chunk = drop r.at (take r.got chunk)

-- with the night as it stands, and what is held of the next line
abbrev pub desk_in : Run → List ℕ → List ℕ → Tables → List ℕ → Desk
desk_in r chunk buf t out = desk_of (rest_in r chunk) r.state t out buf

-- the night suits its tables, all that it said is written out, and the places lie in the chunk
pub record CanGo (r : Run) (chunk : List ℕ) (t : Tables) : Type 0 where
  pub fit : Fit r.state t out_bytes
  pub clear : r.state.used ≡ 0
  pub eaten : r.at ≤ r.got
  pub read : r.got ≤ length chunk

-- ---- what comes next

-- a step follows
abbrev pub goes_on_from : Next → Bool
goes_on_from N.Read = true
goes_on_from N.Eat = true
goes_on_from N.Close = true
goes_on_from N.Done = false
goes_on_from N.Failed = false

-- n bytes of the chunk are there, and none is eaten
abbrev pub run_of : Next → ℕ → State → Run
run_of next n s = record { next = next; at = 0; got = n; state = s }

-- after a read was answered: bytes came, or the input is at its end, or reading failed, and the answer is none
abbrev pub taken_as : Option ℕ → State → Run
taken_as (Some n) s = cond (ltb 0 n) (run_of N.Eat n s) (run_of N.Close 0 s)
taken_as None s = run_of N.Failed 0 s

-- some read into a chunk of n bytes was answered, and x is where that leads
pub record Took (x : Run) (s : State) (n : ℕ) : Type 0 where
  pub got : Option ℕ
  pub within : IfSome got (λ k. k ≤ n)
  pub is : x ≡ taken_as got s

-- after bytes were fed: the night is over, all are eaten, or the output was full
abbrev pub fed_next : State → Next
fed_next s = cond (is_over s.stage) N.Done (cond (has_room out_bytes s.used) N.Read N.Eat)

-- at the end of the input: the night is over, or the output was full
abbrev pub closed_next : State → Next
closed_next s = cond (is_over s.stage) N.Done N.Close

-- the night once what it said is written out
abbrev pub flushed_of : State → State
flushed_of s = record { lines = s.lines; stage = s.stage; used = 0; cut = s.cut }

-- it was written out, and what comes next stays, or writing failed
pub record Wrote (r x : Run) : Type 0 where
  pub next : Next
  pub comes : (next ≡ r.next) ⊎ (next ≡ N.Failed)
  pub is : x ≡ record { next = next; at = r.at; got = r.got; state = flushed_of r.state }

-- ---- one step, for every session of the night

-- where fed bytes lead: another chunk is read once none is left, and nothing more once the night is over
abbrev pub AteTo : Next → List ℕ → Stage → Type 0
AteTo N.Read rest g = rest ≡ []
AteTo N.Eat rest g = Unit {0}
AteTo N.Close rest g = ⊥
AteTo N.Done rest g = is_over g ≡ true
AteTo N.Failed rest g = Unit {0}

-- from the desk d bytes were fed, and `said` was written out: it is what the bytes give, since every session that stood at d goes on so
pub record Ate (d : Desk) (x : Run) (chunk buf : List ℕ) (t : Tables) (out : List ℕ) : Type 0 where
  pub said : List ℕ
  pub session : (file w later : List ℕ) → Session file w d later → Session file (w ++ said) (desk_in x chunk buf t out) later
  pub ready : CanGo x chunk t
  pub leads : AteTo x.next (rest_in x chunk) x.state.stage

-- where the end of the input leads
abbrev pub ClosedTo : Next → Stage → Type 0
ClosedTo N.Read g = ⊥
ClosedTo N.Eat g = ⊥
ClosedTo N.Close g = Unit {0}
ClosedTo N.Done g = is_over g ≡ true
ClosedTo N.Failed g = Unit {0}

-- from the desk d, with no byte left, the night was closed, and `said` was written out
pub record Closed (d : Desk) (x : Run) (chunk buf : List ℕ) (t : Tables) (out : List ℕ) : Type 0 where
  pub said : List ℕ
  pub session : (file w : List ℕ) → d.rest ≡ [] → Session file w d [] → Session file (w ++ said) (desk_in x chunk buf t out) []
  pub ready : CanGo x chunk t
  pub rest : rest_in x chunk ≡ d.rest
  pub leads : ClosedTo x.next x.state.stage

-- ---- all steps so far

-- `read` was read so far and `said` written out, whatever comes later
pub record Open (r : Run) (chunk buf : List ℕ) (t : Tables) (out : List ℕ) : Type 0 where
  pub read : List ℕ
  pub said : List ℕ
  pub session : (later : List ℕ) → Session (read ++ later) said (desk_in r chunk buf t out) later
  pub ready : CanGo r chunk t

-- `read` was the whole input
pub record Shut (r : Run) (chunk buf : List ℕ) (t : Tables) (out : List ℕ) : Type 0 where
  pub read : List ℕ
  pub said : List ℕ
  pub session : Session read said (desk_in r chunk buf t out) []
  pub ready : CanGo r chunk t

-- `read` was read, and its sheet was written out
pub record Finished (r : Run) (chunk buf : List ℕ) (t : Tables) (out : List ℕ) : Type 0 where
  pub read : List ℕ
  pub said : List ℕ
  pub session : Session read said (desk_in r chunk buf t out) []
  pub sheet : said ≡ sheet_of read

-- where the program stands, by what comes next
abbrev pub SoFar : Next → Run → List ℕ → List ℕ → Tables → List ℕ → Type 0
SoFar N.Read r chunk buf t out = Open r chunk buf t out × (rest_in r chunk ≡ [])
SoFar N.Eat r chunk buf t out = Open r chunk buf t out
SoFar N.Close r chunk buf t out = Shut r chunk buf t out × (rest_in r chunk ≡ [])
SoFar N.Done r chunk buf t out = Finished r chunk buf t out
SoFar N.Failed r chunk buf t out = Unit {0}
