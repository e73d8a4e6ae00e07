-- Every file opens a house and comes to its `end` line, or its sheet ends in a refusal.
use mathlib.Core.Path.{◌≡◌, refl, sym, ap, ◌∙◌, subst}
use mathlib.Core.Bool.{Bool, true, false, cond, ◌&&◌, false≢true}
use mathlib.Core.List.{List, [], ◌∷◌, ◌++◌, append-nil, append_assoc}
use Prim.Native.Nat.{ℕ, ◌+◌, ◌≤◌, ◌<◌}
use native.Mathlib.Omega.{arith}
use borrow.Author.Tests.{ltb-true, ltb-false, le-ltb}
use lib.Dec.{eqb, leb, ltb}
use lib.ListN.{length, length-append}
use Rattle.rule.specs.Lists.{Each}
use Rattle.tables.specs.Sizes.{members}
use Rattle.tables.specs.Layout.{Tables}
use Rattle.answers.specs.Outcome.{Outcome, held}
use Rattle.answers.specs.declared.Refusal.{Refusal}
use Rattle.answers.specs.declared.Refusal.TheVariants as R
use Rattle.std.specs.Prelude.{ℤ, Ok, Err, Result}
use Rattle.opening.specs.Open.{open_act}
use Rattle.dayfile.specs.Entries as E
use Rattle.dayfile.specs.Lines.{Line, lines_of}
use Rattle.dayfile.specs.Chunks.{run_of}
use Rattle.sheet.specs.Lines.{text_of}
use Rattle.night.specs.declared.Stage.{Stage}
use Rattle.night.specs.declared.Stage.TheVariants as G
use Rattle.daylines.specs.Calls.{refusal}
use Rattle.night.specs.Lines.{Did, quiet, stops, house_does, given, balances_given, lines_given, opens_to, open_does, given_does, member_does, does_of}
use Rattle.dayfile.specs.Entries.{most_lines, Entry}
use Rattle.night.specs.Stages.{said_all, is_over}
use Rattle.desk.specs.Sheet.{Night, finished, entry_in, after_line, stopped, step_of, morning, closed}
use Rattle.nights.specs.Files.{is_end, night_after, Opens, requests_after, EndsIn, Comes, whole, refused}
use Rattle.nights.proofs.Runs.{Gone, run_join, over-run}
use Rattle.nights.proofs.Demands.{day-gone}

-- ---- a line of the opening

abbrev awaiting : Stage → Bool
awaiting G.House = true
awaiting (G.Members count k) = true
awaiting G.Day = false
awaiting (G.Ending k) = false
awaiting G.Over = false

-- what it can do: a member line is awaited then, the house is open, or it is refused and the night over
data Leads (s : Stage) (r : Did) : Type 0 where
  on : awaiting r.stage ≡ true → Leads s r
  opens : {count k : ℕ} → s ≡ G.Members count k → r.stage ≡ G.Day → Leads s r
  over : (n : ℕ) (c : Refusal) → r.stage ≡ G.Over → r.said ≡ refusal n c ∷ [] → Leads s r

house-by : (n count : ℕ) (t : Tables) (p : Bool) → Leads G.House (cond p (quiet (G.Members count 0) t) (stops n R.Opening t))
house-by n count t true = on refl
house-by n count t false = over n R.Opening refl refl

house-leads : (n : ℕ) (t : Tables) (e : Entry) → Leads G.House (house_does n t e)
house-leads n t (E.opening (E.house count)) = house-by n count t (leb 1 count && leb count members)
house-leads n t (E.opening (E.member m b l)) = over n R.Line refl refl
house-leads n t (E.day d) = over n R.Line refl refl
house-leads n t E.end = over n R.Line refl refl
house-leads n t E.bad = over n R.Line refl refl

module _ (n count k : ℕ) where
  open-leads : (u : Outcome (Result ℤ Refusal)) (o : Result ℤ Refusal) → u.answer ≡ o → Leads (G.Members count k) (opens_to n count u)
  open-leads u (Ok s) e = opens refl (rw e)
  open-leads u (Err r) e = over n r (rw e) (rw e)

  given-leads : (t : Tables) (p : Bool) → Leads (G.Members count k) (cond p (quiet (G.Members count (k + 1)) t) (open_does n count t))
  given-leads t true = on refl
  given-leads t false = let u = held (open_act count (balances_given count t) (lines_given count t)) t in open-leads u u.answer refl

  member-by : (t u : Tables) (p : Bool) → Leads (G.Members count k) (cond p (given_does n count k u) (stops n R.Line t))
  member-by t u true = given-leads u (ltb (k + 1) count)
  member-by t u false = over n R.Line refl refl

  member-leads : (t : Tables) (e : Entry) → Leads (G.Members count k) (member_does n count k t e)
  member-leads t (E.opening (E.member m b l)) = member-by t (given t k b l) (eqb m (k + 1))
  member-leads t (E.opening (E.house m)) = over n R.Line refl refl
  member-leads t (E.day d) = over n R.Line refl refl
  member-leads t E.end = over n R.Line refl refl
  member-leads t E.bad = over n R.Line refl refl

does-leads : (n : ℕ) (s : Stage) (t : Tables) (e : Entry) → awaiting s ≡ true → Leads s (does_of n s t e)
does-leads n G.House t e a = house-leads n t e
does-leads n (G.Members count k) t e a = member-leads n count k t e
does-leads n G.Day t e a = absurd (false≢true a)
does-leads n (G.Ending k) t e a = absurd (false≢true a)
does-leads n G.Over t e a = absurd (false≢true a)

awaiting-on : (s : Stage) → awaiting s ≡ true → is_over s ≡ false
awaiting-on G.House a = refl
awaiting-on (G.Members count k) a = refl
awaiting-on G.Day a = refl
awaiting-on (G.Ending k) a = refl
awaiting-on G.Over a = absurd (false≢true a)

awaiting-told : (s : Stage) → awaiting s ≡ true → awaiting (said_all s) ≡ true
awaiting-told G.House a = refl
awaiting-told (G.Members count k) a = refl
awaiting-told G.Day a = absurd (false≢true a)
awaiting-told (G.Ending k) a = absurd (false≢true a)
awaiting-told G.Over a = absurd (false≢true a)

-- the night after it
data Turns (d e : Night) : Type 0 where
  on : awaiting e.stage ≡ true → e.lines ≡ d.lines + 1 → Turns d e
  opens : {count k : ℕ} → d.stage ≡ G.Members count k → e.stage ≡ G.Day → e.lines ≡ d.lines + 1 → d.lines < most_lines → Turns d e
  over : (n : ℕ) (c : Refusal) → is_over e.stage ≡ true → EndsIn e.sheet (text_of (refusal n c)) → Turns d e

over-ends : (d : Night) (n : ℕ) (c : Refusal) → EndsIn ((d.sheet ++ text_of (refusal n c)) ++ []) (text_of (refusal n c))
over-ends d n c = record { earlier = d.sheet; parts = append-nil (d.sheet ++ text_of (refusal n c)) }

turn_by : (d : Night) (p : Bool) → ltb d.lines most_lines ≡ p → (r : Did) → Leads d.stage r → Turns d (finished (cond p (after_line d r) (stopped (d.lines + 1) d)))
turn_by d true e r (on a) = on (awaiting-told r.stage a) refl
turn_by d true e r (opens s q) = opens s (ap said_all q) refl (ltb-true d.lines most_lines e)
turn_by d true e r (over n c q s) = over n c (rw q) (rw (q, s, append-nil (text_of (refusal n c))) (over-ends d n c))
turn_by d false e r l = over (d.lines + 1) R.Line refl (over-ends d (d.lines + 1) R.Line)

step-turns : (d : Night) (x : Line) → awaiting d.stage ≡ true → Turns d (step_of d x)
step-turns d x a =
    let r = does_of (d.lines + 1) d.stage d.tables (entry_in x) in
    let s : step_of d x ≡ finished (cond (ltb d.lines most_lines) (after_line d r) (stopped (d.lines + 1) d)) = rw (awaiting-on d.stage a) in
    subst (Turns d) (sym s) (turn_by d (ltb d.lines most_lines) refl r (does-leads (d.lines + 1) d.stage d.tables (entry_in x) a))

-- ---- a file, by the lines that are left of it

each_snoc : (P : Line → Type 0) (ls : List Line) (x : Line) → Each P ls → P x → Each P (ls ++ (x ∷ []))
each_snoc P [] x e p = (p, tt)
each_snoc P (l ∷ ls) x e p = (e.0, each_snoc P ls x e.1 p)

module _ (file : List ℕ) where
  -- a night that is not over when the file ends is refused as line 0
  ends-early : (d : Night) → night_after (lines_of file) ≡ d → is_over d.stage ≡ false → Comes file
  ends-early d e o = refused 0 R.Line (record { earlier = d.sheet; parts = ap closed e ∙ ap (λ (b : Bool). (cond b d (stopped 0 d)).sheet) o })

  ends-over : (d : Night) (ls : List Line) (n : ℕ) (c : Refusal) → night_after (lines_of file) ≡ run_of step_of d ls → is_over d.stage ≡ true
      → EndsIn d.sheet (text_of (refusal n c)) → Comes file
  ends-over d ls n c e o s = refused n c (record { earlier = s.earlier; parts = ap closed (e ∙ over-run d ls o) ∙ ap (λ (b : Bool). (cond b d (stopped 0 d)).sheet) o ∙ s.parts })

  left-run : (ls rest : List Line) → lines_of file ≡ ls ++ rest → night_after (lines_of file) ≡ run_of step_of (night_after ls) rest
  left-run ls rest e = ap night_after e ∙ run_join morning ls rest

  module _ (opening : List Line) (o : Opens opening) (all : (night_after opening).lines ≡ length opening) where
    module _ (day : List Line) (still : Each (λ l. is_end (entry_in l) ≡ false) day) (few : length opening + length day ≤ most_lines) where
      abbrev eve : Night
      eve = run_of step_of (night_after opening) day

      gone : Gone (night_after opening) (requests_after opening day) (length day) eve
      gone = day-gone day o still few

      eve-run : (rest : List Line) → lines_of file ≡ opening ++ (day ++ rest) → night_after (lines_of file) ≡ run_of step_of eve rest
      eve-run rest e = left-run opening (day ++ rest) e ∙ run_join (night_after opening) day rest

      -- the line past the most
      day-full : (x : Line) (rest : List Line) → lines_of file ≡ opening ++ (day ++ (x ∷ rest)) → most_lines ≤ length opening + length day → Comes file
      unfolding run_of
      day-full x rest e h =
          let l : most_lines ≤ eve.lines = omega (arith, gone.lines, all) in
          let s : step_of eve x ≡ finished (stopped (eve.lines + 1) eve) = rw (gone.stage, le-ltb eve.lines most_lines l) in
          let r = eve-run (x ∷ rest) e ∙ ap (λ (d : Night). run_of step_of d rest) s in
          ends-over (finished (stopped (eve.lines + 1) eve)) rest (eve.lines + 1) R.Line r refl (over-ends eve (eve.lines + 1) R.Line)

      day-by : (x : Line) (rest : List Line) → lines_of file ≡ opening ++ (day ++ (x ∷ rest))
          → (is_end (entry_in x) ≡ false → length opening + length day < most_lines → Comes file) → Comes file
      day-by x rest e later = go (ltb (length opening + length day) most_lines) refl (is_end (entry_in x)) refl
        where
          go : (p : Bool) → ltb (length opening + length day) most_lines ≡ p → (q : Bool) → is_end (entry_in x) ≡ q → Comes file
          go false h q i = day-full x rest e (ltb-false (length opening + length day) most_lines h)
          go true h true i = whole opening day (record { opens = o; last = x; rest = rest; parts = e; goes_on = still; ends = i; few = ltb-true (length opening + length day) most_lines h })
          go true h false i = later i (ltb-true (length opening + length day) most_lines h)

    day-comes : (rest day : List Line) → Each (λ l. is_end (entry_in l) ≡ false) day → length opening + length day ≤ most_lines → lines_of file ≡ opening ++ (day ++ rest) → Comes file
    unfolding run_of
    day-comes [] day still few e = let g = gone day still few in ends-early (eve day still few) (eve-run day still few [] e) (ap is_over g.stage)
    day-comes (x ∷ rest) day still few e = day-by day still few x rest e (λ i h.
        let p = e ∙ ap (λ (l : List Line). opening ++ l) (sym (append_assoc day (x ∷ []) rest)) in
        day-comes rest (day ++ (x ∷ [])) (each_snoc (λ l. is_end (entry_in l) ≡ false) day x still i) (simp length-append (omega arith)) p)

  -- in the opening
  open-comes : (rest earlier : List Line) → awaiting (night_after earlier).stage ≡ true → (night_after earlier).lines ≡ length earlier → lines_of file ≡ earlier ++ rest → Comes file
  unfolding run_of
  open-comes [] earlier a all e = ends-early (night_after earlier) (left-run earlier [] e) (awaiting-on (night_after earlier).stage a)
  open-comes (x ∷ rest) earlier a all e = go (step-turns (night_after earlier) x a) (λ a l. open-comes rest (earlier ++ (x ∷ [])) a l f)
    where
      f : lines_of file ≡ (earlier ++ (x ∷ [])) ++ rest
      f = e ∙ sym (append_assoc earlier (x ∷ []) rest)

      s : night_after (earlier ++ (x ∷ [])) ≡ step_of (night_after earlier) x
      s = run_join morning earlier (x ∷ [])

      long : length (earlier ++ (x ∷ [])) ≡ length earlier + 1
      long = length-append earlier (x ∷ [])

      count : (step_of (night_after earlier) x).lines ≡ (night_after earlier).lines + 1 → (night_after (earlier ++ (x ∷ []))).lines ≡ length (earlier ++ (x ∷ []))
      count l = ap (λ (d : Night). d.lines) s ∙ l ∙ omega (arith, all, long)

      go : Turns (night_after earlier) (step_of (night_after earlier) x)
          → (awaiting (night_after (earlier ++ (x ∷ []))).stage ≡ true → (night_after (earlier ++ (x ∷ []))).lines ≡ length (earlier ++ (x ∷ [])) → Comes file) → Comes file
      go (on b l) later = later (ap (λ (d : Night). awaiting d.stage) s ∙ b) (count l)
      go (opens {count = n} {k = k} w b l h) later =
          let o : Opens (earlier ++ (x ∷ [])) = record { earlier = earlier; last = x; parts = refl; count = n; given = k; awaits = w; opens = ap (λ (d : Night). d.stage) s ∙ b } in
          day-comes (earlier ++ (x ∷ [])) o (count l) rest [] tt (omega (arith, all, long, h)) f
      go (over n c b t) later = ends-over (step_of (night_after earlier) x) rest n c (left-run earlier (x ∷ rest) e) b t

-- every file is whole, or the last line of its sheet is a refusal
pub file-comes : (file : List ℕ) → Comes file
unfolding run_of
file-comes file = open-comes file (lines_of file) [] refl refl refl
