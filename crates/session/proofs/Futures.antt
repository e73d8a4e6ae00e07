-- What is to come is the same after a turn: the night once all bytes to come are fed, and the sheet if the input ends here.
use mathlib.Core.Path.{◌≡◌, refl, sym, ap, ◌∙◌}
use mathlib.Core.Bool.{Bool, true, false, cond, false≢true}
use mathlib.Core.List.{List, [], ◌∷◌, ◌++◌, append_assoc, append-nil}
use Prim.Native.Nat.{ℕ, ◌+◌, ◌≤◌}
use native.Mathlib.Omega.{arith}
use borrow.Author.Tests.{ltb-false}
use lib.Dec.{ltb}
use lib.ListN.{length, take, drop, length-append, drop_of_length-le}
use lib.Seq.{drop-drop, drop-length}
use Rattle.rule.proofs.Lists.{length-listing}
use Rattle.tables.specs.Layout.{count_of, Tables}
use Rattle.dayfile.specs.Lines.{Line}
use Rattle.dayfile.specs.Chunks.{nothing_held, held_line, Eaten, eat_of, feed_of, end_by}
use Rattle.dayfile.proofs.Chunks.{feed-eaten, eaten-all}
use Rattle.sheet.specs.declared.Says.{Says}
use Rattle.night.specs.declared.Stage.{Stage}
use Rattle.night.specs.declared.Stage.TheVariants as G
use Rattle.night.specs.Lines.{balance_says, end_says}
use Rattle.night.specs.Stages.{is_ending, is_over, rest_says, next_stage, said_all}
use Rattle.desk.specs.Sheet.{Night, texts_of, finished, stopped, answered, step_of, closed}
use Rattle.desk.specs.Desk.{Desk, end_said, eaten_to, eat_turn}
use Rattle.session.specs.Turns.{end_turn, turn_of, last_night, last_turn, close_turn, comes_to, closes_to}

-- ---- a night that is not at its end has nothing to say

rest-none : (g : Stage) (t : Tables) → is_ending g ≡ false → rest_says g t ≡ []
rest-none G.House t e = refl
rest-none (G.Members count k) t e = refl
rest-none G.Day t e = refl
rest-none (G.Ending k) t e = absurd (false≢true (sym e))
rest-none G.Over t e = refl

told_same : (g : Stage) → is_ending g ≡ false → said_all g ≡ g
told_same G.House e = refl
told_same (G.Members count k) e = refl
told_same G.Day e = refl
told_same (G.Ending k) e = absurd (false≢true (sym e))
told_same G.Over e = refl

pub quiet_same : (d : Night) → is_ending d.stage ≡ false → finished d ≡ d
quiet_same d e = rw (told_same d.stage e, rest-none d.stage d.tables e, append-nil)

-- ---- the lines of the end, one at a time

texts-first : (l : List Says) → texts_of (take 1 l) ++ texts_of (drop 1 l) ≡ texts_of l
texts-first [] = refl
texts-first (s ∷ l) = rw append-nil

rest-next : (t : Tables) (g : Stage) → rest_says (next_stage g t) t ≡ drop 1 (rest_says g t)
rest-next t G.House = refl
rest-next t (G.Members count k) = refl
rest-next t G.Day = refl
rest-next t (G.Ending k) = go (ltb k (count_of t.counters)) refl ∙ sym (drop-drop 1 k (end_says t))
  where
    go : (b : Bool) → ltb k (count_of t.counters) ≡ b → rest_says (cond b (G.Ending (k + 1)) G.Over) t ≡ drop (k + 1) (end_says t)
    go true e = refl
    go false e =
        let l : length (end_says t) ≤ k + 1 = simp length-append (omega (arith, length-listing (count_of t.counters) (balance_says t), ltb-false k (count_of t.counters) e)) in
        sym (drop_of_length-le (end_says t) l)
rest-next t G.Over = refl

told-next : (t : Tables) (g : Stage) → said_all (next_stage g t) ≡ said_all g
told-next t G.House = refl
told-next t (G.Members count k) = refl
told-next t G.Day = refl
told-next t (G.Ending k) = go (ltb k (count_of t.counters))
  where
    go : (b : Bool) → said_all (cond b (G.Ending (k + 1)) G.Over) ≡ G.Over
    go true = refl
    go false = refl
told-next t G.Over = refl

-- once all is said, the night is the same
end_same : (d : Night) → finished (end_said d) ≡ finished d
end_same d = rw (told-next d.tables d.stage, rest-next d.tables d.stage, append_assoc, texts-first)

-- ---- a turn while there is input

module _ (n : Night) (quiet : is_ending n.stage ≡ false) where
  -- a line that is answered, and then all that is to be said, is the step
  answered-step : (l : Line) → finished (answered n l) ≡ step_of (finished n) l
  answered-step l = ap (λ (d : Night). step_of d l) (sym (quiet_same n quiet))

  eaten-comes : (s : List ℕ) (e : Eaten) → (e.done ≡ false → e.used ≡ length s) → comes_to (eaten_to (record { rest = s; night = n; held = nothing_held }) e)
      ≡ cond e.done (feed_of step_of (drop e.used s) (record { day = step_of (finished n) (held_line e.held); held = nothing_held })) (record { day = finished n; held = e.held })
  unfolding feed_of
  eaten-comes s e all = go e.done refl
    where
      go : (b : Bool) → e.done ≡ b → feed_of step_of (drop e.used s) (record { day = finished (cond b (answered n (held_line e.held)) n); held = cond b nothing_held e.held })
          ≡ cond b (feed_of step_of (drop e.used s) (record { day = step_of (finished n) (held_line e.held); held = nothing_held })) (record { day = finished n; held = e.held })
      go true q = rw (answered-step (held_line e.held))
      go false q = rw (all q, drop-length s)

pub turn-comes : (d : Desk) → comes_to (turn_of d) ≡ comes_to d
turn-comes d = go (is_ending d.night.stage) refl
  where
    go : (b : Bool) → is_ending d.night.stage ≡ b → comes_to (cond b (end_turn d) (eat_turn d)) ≡ comes_to d
    go true e = rw (end_same d.night)
    go false e =
        eaten-comes d.night e d.rest (eat_of d.rest d.held) (eaten-all d.rest d.held)
        ∙ sym (feed-eaten step_of d.rest d.held (finished d.night))

-- ---- a turn at the end of the input

last-closes : (d : Desk) → is_ending d.night.stage ≡ false → is_over d.night.stage ≡ false → (u : List ℕ)
    → closed (finished (last_night u d)) ≡ closed (end_by step_of u (finished d.night) (held_line d.held))
last-closes d e o [] =
    append-nil (stopped 0 d.night).sheet
    ∙ sym (ap (λ (b : Bool). (cond b d.night (stopped 0 d.night)).sheet) o)
    ∙ sym (ap closed (quiet_same d.night e))
last-closes d e o (b ∷ u) = rw (answered-step d.night e (held_line d.held))

pub close-closes : (d : Desk) → is_over d.night.stage ≡ false → closes_to (close_turn d) ≡ closes_to d
close-closes d o = go (is_ending d.night.stage) refl
  where
    go : (b : Bool) → is_ending d.night.stage ≡ b → closes_to (cond b (end_turn d) (last_turn d)) ≡ closes_to d
    go true e = rw (end_same d.night)
    go false e = last-closes d e o d.held.bytes
