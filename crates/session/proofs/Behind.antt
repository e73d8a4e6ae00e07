-- Bytes that were written out and taken away come first: what is fed and closed later comes behind them.
use mathlib.Core.Path.{◌≡◌, refl, ap, ◌∙◌}
use mathlib.Core.Bool.{Bool, true, false, cond}
use mathlib.Core.List.{List, [], ◌∷◌, ◌++◌, append_assoc}
use Prim.Native.Nat.{ℕ, ◌+◌}
use lib.Dec.{ltb}
use Rattle.dayfile.specs.Lines.{Line}
use Rattle.dayfile.specs.Chunks.{held_line, Fed, feed_of, end_by, finish}
use Rattle.dayfile.proofs.Chunks.{feed-under}
use Rattle.night.specs.Lines.{does_of}
use Rattle.dayfile.specs.Entries.{most_lines}
use Rattle.night.specs.Stages.{is_over}
use Rattle.desk.specs.Sheet.{Night, finished, entry_in, after_line, stopped, step_of, closed}

abbrev pub behind : List ℕ → Night → Night
behind p d = record { lines = d.lines; stage = d.stage; tables = d.tables; sheet = p ++ d.sheet }

step-behind : (p : List ℕ) (d : Night) (l : Line) → step_of (behind p d) l ≡ behind p (step_of d l)
step-behind p d l = go (is_over d.stage) (ltb d.lines most_lines)
  where
    go : (o m : Bool)
        → finished (cond o (behind p d) (cond m (after_line (behind p d) (does_of (d.lines + 1) d.stage d.tables (entry_in l))) (stopped (d.lines + 1) (behind p d))))
        ≡ behind p (finished (cond o d (cond m (after_line d (does_of (d.lines + 1) d.stage d.tables (entry_in l))) (stopped (d.lines + 1) d))))
    go true m = simp append_assoc
    go false true = simp append_assoc
    go false false = simp append_assoc

-- what is fed behind bytes that were written out comes behind them
pub feed-behind : (p s : List ℕ) (f : Fed Night)
    → feed_of step_of s (record { day = behind p f.day; held = f.held }) ≡ record { day = behind p (feed_of step_of s f).day; held = (feed_of step_of s f).held }
feed-behind p s f = feed-under step_of (behind p) (step-behind p) s f

last-behind : (p u : List ℕ) (d : Night) (l : Line) → end_by step_of u (behind p d) l ≡ behind p (end_by step_of u d l)
last-behind p [] d l = refl
last-behind p (b ∷ u) d l = step-behind p d l

closed-behind : (p : List ℕ) (d : Night) → closed (behind p d) ≡ p ++ closed d
closed-behind p d = go (is_over d.stage)
  where
    go : (o : Bool) → (cond o (behind p d) (stopped 0 (behind p d))).sheet ≡ p ++ (cond o d (stopped 0 d)).sheet
    go true = refl
    go false = rw append_assoc

-- and so does what is closed
pub close-behind : (p : List ℕ) (f : Fed Night) → closed (finish step_of (record { day = behind p f.day; held = f.held })) ≡ p ++ closed (finish step_of f)
close-behind p f = ap closed (last-behind p f.held.bytes f.day (held_line f.held)) ∙ closed-behind p (finish step_of f)
