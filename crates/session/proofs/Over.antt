-- Once the night is over, what else the file has adds nothing to the sheet.
use mathlib.Core.Path.{◌≡◌, refl, ap, ◌∙◌}
use mathlib.Core.Bool.{Bool, true, false, cond, false≢true}
use mathlib.Core.List.{List, [], ◌∷◌}
use Prim.Native.Nat.{ℕ}
use lib.Dec.{eqb}
use Rattle.dayfile.specs.Lines.{Line}
use Rattle.dayfile.specs.Chunks.{nothing_held, pushed, held_line, Fed, byte_of, feed_of, end_by, finish}
use Rattle.night.specs.declared.Stage.{Stage}
use Rattle.night.specs.declared.Stage.TheVariants as G
use Rattle.night.specs.Stages.{is_ending, is_over}
use Rattle.desk.specs.Sheet.{Night, stopped, step_of, closed}
use Rattle.session.proofs.Futures.{quiet_same}

pub over-quiet : (g : Stage) → is_over g ≡ true → is_ending g ≡ false
over-quiet G.House e = refl
over-quiet (G.Members count k) e = refl
over-quiet G.Day e = refl
over-quiet (G.Ending k) e = absurd (false≢true e)
over-quiet G.Over e = refl

over-stays : (d : Night) (l : Line) → is_over d.stage ≡ true → step_of d l ≡ d
over-stays d l o = rw o (quiet_same d (over-quiet d.stage o))

over_by : (b : ℕ) (f : Fed Night) → is_over f.day.stage ≡ true → (byte_of step_of b f).day ≡ f.day
over_by b f o = go (eqb b 10)
  where
    go : (p : Bool)
        → (cond {A = Fed Night} p (record { day = step_of f.day (held_line f.held); held = nothing_held }) (record { day = f.day; held = pushed b f.held })).day ≡ f.day
    go true = over-stays f.day (held_line f.held) o
    go false = refl

over-fed : (s : List ℕ) (f : Fed Night) → is_over f.day.stage ≡ true → (feed_of step_of s f).day ≡ f.day
unfolding feed_of
over-fed [] f o = refl
over-fed (b ∷ s) f o = let e = over_by b f o in over-fed s (byte_of step_of b f) (ap (λ (d : Night). is_over d.stage) e ∙ o) ∙ e

over_last : (u : List ℕ) (d : Night) (l : Line) → is_over d.stage ≡ true → end_by step_of u d l ≡ d
over_last [] d l o = refl
over_last (b ∷ u) d l o = over-stays d l o

pub over_closed : (s : List ℕ) (f : Fed Night) → is_over f.day.stage ≡ true → closed (finish step_of (feed_of step_of s f)) ≡ f.day.sheet
over_closed s f o =
    let g : Fed Night = feed_of step_of s f in
    let e : finish step_of g ≡ f.day =
    over_last g.held.bytes g.day (held_line g.held) (ap (λ (d : Night). is_over d.stage) (over-fed s f o) ∙ o) ∙ over-fed s f o in
    ap closed e ∙ ap (λ (b : Bool). (cond b f.day (stopped 0 f.day)).sheet) o
