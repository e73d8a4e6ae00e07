-- The library's theorems: chunks of any size, fed one after the other and closed, give the sheet of the whole file; what a call leaves to
-- come is what was to come, and where it stops with room left, all is done; and the night of a host, however it reads and writes, gives the
-- sheet of its file.
use mathlib.Core.Path.{◌≡◌, refl, sym, ap, ◌∙◌}
use mathlib.Core.Bool.{Bool, true, false, cond, not, false≢true}
use mathlib.Core.List.{List, [], ◌∷◌, ◌++◌, append_assoc}
use mathlib.Core.Logic.{◌⊎◌, inl, inr}
use Prim.Native.Nat.{ℕ, ◌+◌, ◌≤◌}
use native.Mathlib.Omega.{arith}
use borrow.Author.Tests.{ltb-false, le-leb, not-true, not-false}
use lib.Dec.{ltb}
use lib.ListN.{length}
use Rattle.dayfile.specs.Chunks.{Fed, feed_of, feed_all, finish, joined}
use Rattle.dayfile.proofs.Chunks.{feed-append, feed-lines, chunks}
use Rattle.tables.proofs.Tests.{and_both}
use Rattle.sheet.specs.Room.{least_room, has_room}
use Rattle.night.specs.declared.Stage.{Stage}
use Rattle.night.specs.declared.Stage.TheVariants as G
use Rattle.tables.specs.Layout.{Tables}
use Rattle.desk.specs.declared.State.{State}
use Rattle.night.specs.Stages.{is_ending, is_over}
use Rattle.desk.specs.Sheet.{Night, finished, step_of, morning, closed, sheet_of}
use Rattle.session.specs.Stops.{Stops}
use Rattle.desk.specs.Desk.{Desk}
use Rattle.session.specs.Turns.{end_turn, turn_of, last_turn, close_turn, is_on, goes_on, closes_on, fed_of, comes_to, closes_to}
use Rattle.desk.specs.States.{desk_of}
use Rattle.session.specs.Feeding.{dawn}
use Rattle.session.specs.Session.{first_desk, cleared, Session, begun, hands, feeds, writes, closes}
use Rattle.session.proofs.Stopping.{stops-here, stops_same}
use Rattle.session.proofs.Futures.{quiet_same, turn-comes, close-closes}
use Rattle.session.proofs.Over.{over-quiet, over_closed}
use Rattle.session.proofs.Behind.{behind, feed-behind, close-behind}

-- the state before the first line, with empty tables, is the first desk
pub dawn-is : (out buf : List ℕ) → desk_of [] dawn morning.tables out buf ≡ first_desk
dawn-is out buf = refl

-- chunks one after the other, and then the end of the input, give the sheet of the whole file
pub sheet-of-chunks : (cs : List (List ℕ)) → closed (finish step_of (feed_all step_of cs (fed_of first_desk))) ≡ sheet_of (joined cs)
sheet-of-chunks cs = ap closed (chunks step_of cs morning)

-- ---- what a call leaves to come, and where it stops with 80 bytes left

off-by : (g : Stage) (m : Bool) → is_on g m ≡ false → (is_ending g ≡ false) × ((m ≡ false) ⊎ (is_over g ≡ true))
off-by G.House m e = (refl, inl e)
off-by (G.Members count k) m e = (refl, inl e)
off-by G.Day m e = (refl, inl e)
off-by (G.Ending k) m e = absurd (false≢true (sym e))
off-by G.Over m e = (refl, inr refl)

none_left : (l : List ℕ) {P : Type 0} → (ltb 0 (length l) ≡ false) ⊎ P → (l ≡ []) ⊎ P
none_left [] (inl e) = inl refl
none_left (b ∷ l) (inl e) = absurd (omega (arith, ltb-false 0 (length (b ∷ l)) e))
none_left l (inr p) = inr p

module _ (n : ℕ) {d e : Desk} where
  -- what is to come is what was to come,
  pub feed-comes : Stops turn_of (goes_on n) d e → comes_to e ≡ comes_to d
  feed-comes s = stops_same comes_to (λ x g. turn-comes x) s

  -- so a chunk that is eaten whole leaves what its bytes made of the night before,
  pub eaten : Stops turn_of (goes_on n) d e → e.rest ≡ [] → fed_of e ≡ comes_to d
  unfolding feed_of
  eaten s q = ap (λ (r : List ℕ). feed_of step_of r (fed_of e)) (sym q) ∙ feed-comes s

  -- and it is eaten whole, or the night is over, and nothing of the end is left to say
  pub feed-whole : Stops turn_of (goes_on n) d e → length e.night.sheet + least_room ≤ n → (is_ending e.night.stage ≡ false) × ((e.rest ≡ []) ⊎ (is_over e.night.stage ≡ true))
  feed-whole s l =
      let h : is_on e.night.stage (ltb 0 (length e.rest)) ≡ false = rw (le-leb (length e.night.sheet + least_room) n l) at s.halts in
      let o = off-by e.night.stage (ltb 0 (length e.rest)) h in
      (o.0, none_left e.rest o.1)

  -- with less than 80 bytes left at first nothing changes
  pub feed-full : has_room n (length d.night.sheet) ≡ false → Stops turn_of (goes_on n) d e → e ≡ d
  feed-full r s = stops-here (rw r) s

  -- at the end of the input, the sheet to come is what was to come,
  pub close-comes : Stops close_turn (closes_on n) d e → closes_to e ≡ closes_to d
  close-comes s = stops_same closes_to (λ x g. close-closes x (not-true (is_over x.night.stage) (and_both (has_room n (length x.night.sheet)) (not (is_over x.night.stage)) g).1)) s

  -- and the night is over
  pub close-over : Stops close_turn (closes_on n) d e → length e.night.sheet + least_room ≤ n → is_over e.night.stage ≡ true
  close-over s l = not-false (is_over e.night.stage) (rw (le-leb (length e.night.sheet + least_room) n l) at s.halts)

  -- or, with less than 80 bytes left at first, nothing changes
  pub close-full : has_room n (length d.night.sheet) ≡ false → Stops close_turn (closes_on n) d e → e ≡ d
  close-full r s = stops-here (rw r) s

-- ---- the night of a host

-- a state whose output was written out is cleared
pub flushed-is : (rest : List ℕ) (s : State) (t : Tables) (out buf : List ℕ)
    → desk_of rest (record { lines = s.lines; stage = s.stage; used = 0; cut = s.cut }) t out buf ≡ cleared (desk_of rest s t out buf)
flushed-is rest s t out buf = refl

-- the sheet that comes of it
abbrev total : List ℕ → Desk → List ℕ → List ℕ
total w d later = w ++ closed (finish step_of (feed_of step_of later (comes_to d)))

-- what was written out comes first
total_cleared : (w : List ℕ) (d : Desk) (later : List ℕ) → total (w ++ d.night.sheet) (cleared d) later ≡ total w d later
total_cleared w d later =
    let p : List ℕ = d.night.sheet in
    let c : Fed Night = comes_to (cleared d) in
    let e : comes_to d ≡ record { day = behind p c.day; held = c.held } = feed-behind p d.rest (fed_of (cleared d)) in
    let f : feed_of step_of later (comes_to d) ≡ record { day = behind p (feed_of step_of later c).day; held = (feed_of step_of later c).held } = ap (feed_of step_of later) e ∙ feed-behind p later c in
    append_assoc w p (closed (finish step_of (feed_of step_of later c)))
    ∙ ap (λ (x : List ℕ). w ++ x) (sym (ap (λ (g : Fed Night). closed (finish step_of g)) f ∙ close-behind p (feed_of step_of later c)))

close-rest : (d : Desk) → (close_turn d).rest ≡ d.rest
close-rest d = go (is_ending d.night.stage)
  where
    go : (b : Bool) → (cond b (end_turn d) (last_turn d)).rest ≡ d.rest
    go true = refl
    go false = refl

total-same : {file w : List ℕ} {d : Desk} {later : List ℕ} → Session file w d later → total w d later ≡ sheet_of file
unfolding feed_of
total-same {file} begun = ap closed (feed-lines step_of file [] morning)
total-same {file} {w} (hands {d = d} chunk later s q) =
    ap (λ (f : Fed Night). w ++ closed (finish step_of f)) (sym (feed-append step_of chunk later (fed_of d)) ∙ ap (λ (r : List ℕ). feed_of step_of (chunk ++ later) (feed_of step_of r (fed_of d))) (sym q))
    ∙ total-same s
total-same {file} {w} {later = later} (feeds n e s h) = ap (λ (f : Fed Night). w ++ closed (finish step_of (feed_of step_of later f))) (feed-comes n h) ∙ total-same s
total-same (writes {w} {d} {later} s) = total_cleared w d later ∙ total-same s
total-same {file} {w} (closes {d = d} n e s q h) =
    let r : e.rest ≡ [] = stops_same (λ (x : Desk). x.rest) (λ x g. close-rest x) h ∙ q in
    ap (λ (l : List ℕ). w ++ closed (finish step_of (feed_of step_of l (fed_of e)))) r
    ∙ ap (λ (l : List ℕ). w ++ l) (close-comes n h)
    ∙ ap (λ (l : List ℕ). w ++ closed (finish step_of (feed_of step_of l (fed_of d)))) (sym q)
    ∙ total-same s

-- once it is over, what was written out and what stands in the output are the sheet of the file
pub session-sheet : {file w : List ℕ} {d : Desk} {later : List ℕ} → Session file w d later → is_over d.night.stage ≡ true → w ++ d.night.sheet ≡ sheet_of file
session-sheet {file} {w} {d} {later} s o =
    let e : finished d.night ≡ d.night = quiet_same d.night (over-quiet d.night.stage o) in
    let f : closed (finish step_of (feed_of step_of later (comes_to d))) ≡ d.night.sheet =
    ap (λ (g : Fed Night). closed (finish step_of g)) (sym (feed-append step_of d.rest later (fed_of d)))
    ∙ over_closed (d.rest ++ later) (fed_of d) (ap (λ (n : Night). is_over n.stage) e ∙ o)
    ∙ ap (λ (n : Night). n.sheet) e in
    ap (λ (l : List ℕ). w ++ l) (sym f) ∙ total-same s
