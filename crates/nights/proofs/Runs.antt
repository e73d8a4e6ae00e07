-- The night over the lines of a day: each line is its requests, `end` says the closing lines, and nothing after it is read.
use mathlib.Core.Path.{◌≡◌, refl, sym, ap, ◌∙◌, subst}
use mathlib.Core.Bool.{Bool, true, false, cond}
use mathlib.Core.List.{List, [], ◌∷◌, ◌++◌}
use Prim.Native.Nat.{ℕ, ◌+◌, ◌≤◌, ◌<◌}
use native.Mathlib.Omega.{arith}
use borrow.Author.Tests.{lt-ltb}
use lib.Dec.{ltb}
use lib.ListN.{length}
use Rattle.rule.specs.Lists.{Each}
use Rattle.tables.specs.Layout.{members_in}
use Rattle.tables.specs.Holds.{Holds}
use Rattle.dayfile.specs.Lines.{Line}
use Rattle.dayfile.specs.Chunks.{run_of}
use Rattle.night.specs.declared.Stage.TheVariants as G
use Rattle.night.specs.Lines.{Did, quiet, day_does, does_of, end_says}
use Rattle.dayfile.specs.Entries.{most_lines}
use Rattle.night.specs.Stages.{said_all, is_over}
use Rattle.desk.specs.Sheet.{Night, texts_of, finished, entry_in, after_line, stopped, step_of, closed}
use Rattle.session.proofs.Futures.{quiet_same}
use Rattle.session.proofs.Over.{over-quiet}
use Rattle.days.specs.Days.{Request, after_all}
use Rattle.days.proofs.Chains.{chain-carries, after-join}
use Rattle.nights.specs.Files.{requests_of, requests_in, is_end}
use Rattle.nights.proofs.Calls.{line-calls, day-stays, end-does}
use Rattle.nights.proofs.Requests.{line-inside}

-- ---- any lines

pub run_join : (d : Night) (ls ms : List Line) → run_of step_of d (ls ++ ms) ≡ run_of step_of (run_of step_of d ls) ms
unfolding run_of
run_join d [] ms = refl
run_join d (l ∷ ls) ms = run_join (step_of d l) ls ms

-- no line counts for more than one
step-few : (d : Night) (l : Line) → (step_of d l).lines ≤ d.lines + 1
step-few d l = go (is_over d.stage) (ltb d.lines most_lines) (does_of (d.lines + 1) d.stage d.tables (entry_in l))
  where
    go : (o b : Bool) (r : Did) → (cond o d (cond b (after_line d r) (stopped (d.lines + 1) d))).lines ≤ d.lines + 1
    go true b r = omega arith
    go false true r = omega arith
    go false false r = omega arith

pub run-few : (d : Night) (ls : List Line) → (run_of step_of d ls).lines ≤ d.lines + length ls
unfolding run_of
run-few d [] = omega arith
run-few d (l ∷ ls) = omega (arith, run-few (step_of d l) ls, step-few d l)

-- once it is over nothing is read
pub over-run : (d : Night) (ls : List Line) → is_over d.stage ≡ true → run_of step_of d ls ≡ d
unfolding run_of
over-run d [] o = refl
over-run d (l ∷ ls) o =
    let e : step_of d l ≡ d = rw o (quiet_same d (over-quiet d.stage o)) in
    ap (λ (n : Night). run_of step_of n ls) e ∙ over-run d ls o

-- ---- lines of the day

-- from d to e it stays day, over as many lines, and the tables are those after the requests
pub record Gone (d : Night) (qs : List Request) (k : ℕ) (e : Night) : Type 0 where
  pub stage : e.stage ≡ G.Day
  pub lines : e.lines ≡ d.lines + k
  pub after : e.tables ≡ after_all qs d.tables

module _ (d : Night) (l : Line) (day : d.stage ≡ G.Day) (few : d.lines < most_lines) where
  pub step-day : step_of d l ≡ finished (after_line d (day_does (d.lines + 1) d.tables (entry_in l)))
  step-day = rw (day, lt-ltb d.lines most_lines few)

  pub line-gone : {n : ℕ} → Holds d.tables → members_in d.tables ≡ n → is_end (entry_in l) ≡ false → Gone d (requests_of n (entry_in l)) 1 (step_of d l)
  line-gone {n} h q e = record {
    stage = ap (λ (x : Night). x.stage) step-day ∙ ap said_all (day-stays (d.lines + 1) d.tables (entry_in l) e);
    lines = ap (λ (x : Night). x.lines) step-day;
    after = ap (λ (x : Night). x.tables) step-day ∙ line-calls h q (d.lines + 1) (entry_in l);
  }

  -- at `end` it is over once the closing lines are said, and no later line is read
  end-run : (ls : List Line) → is_end (entry_in l) ≡ true → run_of step_of d (l ∷ ls) ≡ finished (after_line d (quiet (G.Ending 0) d.tables))
  unfolding run_of
  end-run ls e =
      let q : step_of d l ≡ finished (after_line d (quiet (G.Ending 0) d.tables)) = step-day ∙ ap (λ (r : Did). finished (after_line d r)) (end-does (d.lines + 1) d.tables (entry_in l) e) in
      ap (λ (x : Night). run_of step_of x ls) q ∙ over-run (finished (after_line d (quiet (G.Ending 0) d.tables))) ls refl

  pub end-tables : (ls : List Line) → is_end (entry_in l) ≡ true → (run_of step_of d (l ∷ ls)).tables ≡ d.tables
  end-tables ls e = ap (λ (x : Night). x.tables) (end-run ls e)

  pub end-closes : (ls : List Line) → is_end (entry_in l) ≡ true → closed (run_of step_of d (l ∷ ls)) ≡ (d.sheet ++ []) ++ texts_of (end_says d.tables)
  end-closes ls e = ap closed (end-run ls e)

-- the lines of the day, one after the other
pub lines-gone : {n : ℕ} (d : Night) (ls : List Line) → d.stage ≡ G.Day → Holds d.tables → members_in d.tables ≡ n → Each (λ l. is_end (entry_in l) ≡ false) ls
    → d.lines + length ls ≤ most_lines → Gone d (requests_in n ls) (length ls) (run_of step_of d ls)
unfolding run_of
lines-gone d [] day h q on few = record { stage = day; lines = omega arith; after = refl }
lines-gone {n} d (l ∷ ls) day h q on few =
    let qs = requests_of n (entry_in l) in
    let g = line-gone d l day (omega arith) h q on.0 in
    let c = chain-carries h qs (line-inside n (entry_in l) d.tables) in
    let k = lines-gone {n = n} (step_of d l) ls g.stage (subst Holds (sym g.after) c.stands) (ap members_in g.after ∙ c.members ∙ q) on.1 (omega (arith, g.lines)) in
    record {
      stage = k.stage;
      lines = omega (arith, k.lines, g.lines);
      after = k.after ∙ ap (after_all (requests_in n ls)) g.after ∙ sym (after-join qs (requests_in n ls) d.tables);
    }
