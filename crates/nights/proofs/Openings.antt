-- Lines that open a house: the tables are those of an accepted open, with the balances and the lines that the member lines give.
use mathlib.Core.Path.{◌≡◌, refl, sym, ap, ◌∙◌, subst}
use mathlib.Core.Bool.{Bool, true, false, cond, ◌&&◌, false≢true}
use mathlib.Core.List.{List, [], ◌∷◌, ◌++◌, append-nil, append_assoc}
use Prim.Native.Nat.{ℕ, ◌+◌, ◌<◌}
use native.Mathlib.Omega.{arith}
use native.Mathlib.Numerals.{add-one}
use borrow.Author.Tests.{leb-true, ltb-true, ltb-false}
use lib.Dec.{eqb, leb, ltb}
use lib.IntN.{ℤ, pos}
use lib.ListN.{length, take, drop, set, length-set, length-drop}
use lib.Seq.{take-suc-set, take-set-le, drop-set-lt, drop-set-add}
use Rattle.tables.specs.Sizes.{members}
use Rattle.tables.specs.Layout.{Tables, lines_at}
use Rattle.tables.proofs.Tests.{and_both}
use Rattle.answers.specs.Outcome.{Outcome, outcome, held}
use Rattle.answers.specs.declared.Refusal.TheVariants as R
use Rattle.std.specs.Prelude.{Ok, Err, Result}
use Rattle.answers.specs.declared.Refusal.{Refusal}
use Rattle.answers.specs.Codes.{first}
use Rattle.answers.proofs.Outcomes.{done-fine}
use Rattle.opening.specs.Open.{open_act}
use Rattle.opening.proofs.Judging.{Opens as OpenFine, open-fine}
use Rattle.dayfile.specs.Entries as E
use Rattle.dayfile.specs.Lines.{Line}
use Rattle.dayfile.specs.Chunks.{run_of}
use Rattle.night.specs.declared.Stage.{Stage}
use Rattle.night.specs.declared.Stage.TheVariants as G
use Rattle.night.specs.Lines.{Did, quiet, stops, house_does, given, open_stage, balances_given, lines_given, open_does, given_does, member_does, day_does, does_of}
use Rattle.night.specs.Stands.{Sized, Giving}
use Rattle.dayfile.specs.Entries.{most_lines, Entry}
use Rattle.night.specs.Stages.{said_all, is_over}
use Rattle.desk.specs.Sheet.{Night, entry_in, after_line, stopped, step_of, morning}
use Rattle.desk.proofs.Morning.{morning-sized}
use Rattle.days.specs.Days.{Begun}
use Rattle.nights.specs.Files.{balance_given, credit_of, balances_in, credits_in, members_of, night_after, Opens, opened_by}
use Rattle.nights.proofs.Runs.{run_join}

-- ---- what was given so far

-- k of the count members, with the balances b and the lines l
record Gives (count k : ℕ) (t : Tables) (b l : List ℤ) : Type 0 where
  pub giving : Giving count k t
  pub balances : take k t.accounts ≡ b
  pub lines : take k (drop lines_at t.accounts) ≡ l

record None (t : Tables) (b l : List ℤ) : Type 0 where
  pub sized : Sized t
  pub balances : b ≡ []
  pub lines : l ≡ []

abbrev Gave : Stage → Tables → List ℤ → List ℤ → Type 0
Gave G.House t b l = None t b l
Gave (G.Members count k) t b l = Gives count k t b l
Gave G.Day t b l = Unit {0}
Gave (G.Ending k) t b l = Unit {0}
Gave G.Over t b l = Unit {0}

-- after a line that did r
abbrev GaveBy : Did → List ℤ → List ℤ → Type 0
GaveBy r b l = Gave (said_all r.stage) r.after b l

-- one member more
module _ {count k : ℕ} {t : Tables} {b l : List ℤ} (g : Gives count k t b l) (x : ℤ) (y : ℕ) where
  given-balances : take (k + 1) (given t k x y).accounts ≡ b ++ (x ∷ [])
  given-balances =
      let r : k < length t.accounts = omega (arith, g.giving.few, g.giving.next, g.giving.sized.long) in
      rw (take-set-le (k + 1) (set t.accounts k x) (lines_at + k) (pos y) (omega arith), add-one, take-suc-set t.accounts k x r, g.balances)

  given-lines : take (k + 1) (drop lines_at (given t k x y).accounts) ≡ l ++ (pos y ∷ [])
  given-lines =
      let r : k < length (drop lines_at t.accounts) = omega (arith, length-drop lines_at t.accounts, g.giving.few, g.giving.next, g.giving.sized.long) in
      let q : k < members = omega (arith, g.giving.few, g.giving.next) in
      rw (drop-set-add lines_at (set t.accounts k x) k (pos y), drop-set-lt lines_at t.accounts k x q, add-one, take-suc-set (drop lines_at t.accounts) k (pos y) r, g.lines)

  gives-next : k + 1 < count → Gives count (k + 1) (given t k x y) (b ++ (x ∷ [])) (l ++ (pos y ∷ []))
  gives-next h = record {
    giving = record { few = g.giving.few; next = h; sized = record { long = simp length-set g.giving.sized.long; broad = g.giving.sized.broad; deep = g.giving.sized.deep } };
    balances = given-balances;
    lines = given-lines;
  }

-- ---- a line

open-gave : (o : Result ℤ Refusal) (t : Tables) (b l : List ℤ) → Gave (said_all (open_stage o)) t b l
open-gave (Ok s) t b l = tt
open-gave (Err r) t b l = tt

house-gave : (n : ℕ) (t : Tables) (b l : List ℤ) → None t b l → (e : Entry) → GaveBy (house_does n t e) (b ++ balance_given e) (l ++ credit_of e)
house-gave n t b l g (E.opening (E.house count)) = go (leb 1 count && leb count members) refl
  where
    go : (p : Bool) → (leb 1 count && leb count members) ≡ p → GaveBy (cond p (quiet (G.Members count 0) t) (stops n R.Opening t)) (b ++ []) (l ++ [])
    go true e =
        let q = and_both (leb 1 count) (leb count members) e in
        record {
          giving = record { few = leb-true count members q.1; next = leb-true 1 count q.0; sized = g.sized };
          balances = sym (append-nil b ∙ g.balances);
          lines = sym (append-nil l ∙ g.lines);
        }
    go false e = tt
house-gave n t b l g (E.opening (E.member m x y)) = tt
house-gave n t b l g (E.day d) = tt
house-gave n t b l g E.end = tt
house-gave n t b l g E.bad = tt

module _ (n count k : ℕ) (t : Tables) {b l : List ℤ} (g : Gives count k t b l) where
  given-gave : (x : ℤ) (y : ℕ) (p : Bool) → ltb (k + 1) count ≡ p
      → GaveBy (cond p (quiet (G.Members count (k + 1)) (given t k x y)) (open_does n count (given t k x y))) (b ++ (x ∷ [])) (l ++ (pos y ∷ []))
  given-gave x y true e = gives-next g x y (ltb-true (k + 1) count e)
  given-gave x y false e =
      let u = held (open_act count (balances_given count (given t k x y)) (lines_given count (given t k x y))) (given t k x y) in
      open-gave u.answer u.after (b ++ (x ∷ [])) (l ++ (pos y ∷ []))

  member-by : (x : ℤ) (y : ℕ) (p : Bool)
      → GaveBy (cond p (given_does n count k (given t k x y)) (stops n R.Line t)) (b ++ (x ∷ [])) (l ++ (pos y ∷ []))
  member-by x y true = given-gave x y (ltb (k + 1) count) refl
  member-by x y false = tt

  member-gave : (e : Entry) → GaveBy (member_does n count k t e) (b ++ balance_given e) (l ++ credit_of e)
  member-gave (E.opening (E.house m)) = tt
  member-gave (E.opening (E.member m x y)) = member-by x y (eqb m (k + 1))
  member-gave (E.day d) = tt
  member-gave E.end = tt
  member-gave E.bad = tt

day-gave : (n : ℕ) (t : Tables) (e : Entry) (b l : List ℤ) → GaveBy (day_does n t e) b l
day-gave n t (E.opening o) b l = tt
day-gave n t (E.day d) b l = tt
day-gave n t E.end b l = tt
day-gave n t E.bad b l = tt

does-gave : (n : ℕ) (s : Stage) (t : Tables) (e : Entry) (b l : List ℤ) → Gave s t b l → GaveBy (does_of n s t e) (b ++ balance_given e) (l ++ credit_of e)
does-gave n G.House t e b l g = house-gave n t b l g e
does-gave n (G.Members count k) t e b l g = member-gave n count k t g e
does-gave n G.Day t e b l g = day-gave n t e (b ++ balance_given e) (l ++ credit_of e)
does-gave n (G.Ending k) t e b l g = tt
does-gave n G.Over t e b l g = tt

over-gave : (s : Stage) → is_over s ≡ true → (t : Tables) (b l : List ℤ) → Gave (said_all s) t b l
over-gave G.House e t b l = absurd (false≢true e)
over-gave (G.Members count k) e t b l = absurd (false≢true e)
over-gave G.Day e t b l = tt
over-gave (G.Ending k) e t b l = tt
over-gave G.Over e t b l = tt

step-gave : (d : Night) (x : Line) (b l : List ℤ) → Gave d.stage d.tables b l
    → Gave (step_of d x).stage (step_of d x).tables (b ++ balance_given (entry_in x)) (l ++ credit_of (entry_in x))
step-gave d x b l g = go (is_over d.stage) refl (ltb d.lines most_lines)
  where
    r : Did
    r = does_of (d.lines + 1) d.stage d.tables (entry_in x)

    go : (o : Bool) → is_over d.stage ≡ o → (p : Bool) → let e = cond o d (cond p (after_line d r) (stopped (d.lines + 1) d)) in
        Gave (said_all e.stage) e.tables (b ++ balance_given (entry_in x)) (l ++ credit_of (entry_in x))
    go true e p = over-gave d.stage e d.tables (b ++ balance_given (entry_in x)) (l ++ credit_of (entry_in x))
    go false e true = does-gave (d.lines + 1) d.stage d.tables (entry_in x) b l g
    go false e false = tt

-- ---- the last line of the opening

module _ (n count k : ℕ) (t : Tables) {b l : List ℤ} (g : Gives count k t b l) where
  open-begun : (x : ℤ) (y : ℕ) → k + 1 ≡ count → said_all (open_does n count (given t k x y)).stage ≡ G.Day
      → Begun count (b ++ (x ∷ [])) (l ++ (pos y ∷ [])) (open_does n count (given t k x y)).after
  open-begun x y c q = go u.answer refl q
    where
      v : Tables
      v = given t k x y

      u : Outcome (Result ℤ Refusal)
      u = held (open_act count (balances_given count v) (lines_given count v)) v

      eb : balances_given count v ≡ b ++ (x ∷ [])
      eb = ap (λ i. take i v.accounts) (sym c) ∙ given-balances g x y

      el : lines_given count v ≡ l ++ (pos y ∷ [])
      el = ap (λ i. take i (drop lines_at v.accounts)) (sym c) ∙ given-lines g x y

      go : (o : Result ℤ Refusal) → u.answer ≡ o → said_all (open_stage o) ≡ G.Day → Begun count (b ++ (x ∷ [])) (l ++ (pos y ∷ [])) u.after
      go (Ok s) e q = record {
        before = v;
        sum = s;
        promise =
            ap (λ z. held (open_act count z (l ++ (pos y ∷ []))) v) (sym eb) ∙ ap (λ z. held (open_act count (balances_given count v) z) v) (sym el)
            ∙ ap (λ a. outcome a u.after) e;
      }
      go (Err r) e q = let z : ◌≡◌ {A = ℕ} 0 1 = cc in absurd (omega arith)

  given-begun : (x : ℤ) (y : ℕ) (p : Bool) → ltb (k + 1) count ≡ p → let r = cond p (quiet (G.Members count (k + 1)) (given t k x y)) (open_does n count (given t k x y)) in
      said_all r.stage ≡ G.Day → Begun count (b ++ (x ∷ [])) (l ++ (pos y ∷ [])) r.after
  given-begun x y true e q = let z : ◌≡◌ {A = ℕ} 0 1 = cc in absurd (omega arith)
  given-begun x y false e q = open-begun x y (omega (arith, ltb-false (k + 1) count e, g.giving.next)) q

  by-begun : (x : ℤ) (y : ℕ) (p : Bool) → let r = cond p (given_does n count k (given t k x y)) (stops n R.Line t) in
      said_all r.stage ≡ G.Day → Begun count (b ++ (x ∷ [])) (l ++ (pos y ∷ [])) r.after
  by-begun x y true q = given-begun x y (ltb (k + 1) count) refl q
  by-begun x y false q = let z : ◌≡◌ {A = ℕ} 0 1 = cc in absurd (omega arith)

  member-begun : (e : Entry) → said_all (member_does n count k t e).stage ≡ G.Day → Begun count (b ++ balance_given e) (l ++ credit_of e) (member_does n count k t e).after
  member-begun (E.opening (E.house m)) q = let z : ◌≡◌ {A = ℕ} 0 1 = cc in absurd (omega arith)
  member-begun (E.opening (E.member m x y)) q = by-begun x y (eqb m (k + 1)) q
  member-begun (E.day d) q = let z : ◌≡◌ {A = ℕ} 0 1 = cc in absurd (omega arith)
  member-begun E.end q = let z : ◌≡◌ {A = ℕ} 0 1 = cc in absurd (omega arith)
  member-begun E.bad q = let z : ◌≡◌ {A = ℕ} 0 1 = cc in absurd (omega arith)

-- the same night at a stage
abbrev night_at : Night → Stage → Night
night_at d s = record { lines = d.lines; stage = s; tables = d.tables; sheet = d.sheet }

step-begun : (d : Night) (x : Line) {count k : ℕ} {b l : List ℤ} → d.stage ≡ G.Members count k → Gives count k d.tables b l → (step_of d x).stage ≡ G.Day
    → Begun count (b ++ balance_given (entry_in x)) (l ++ credit_of (entry_in x)) (step_of d x).tables
step-begun d x {count} {k} {b} {l} e g q =
    let s : step_of d x ≡ step_of (night_at d (G.Members count k)) x = ap (λ i. step_of (night_at d i) x) e in
    subst (λ (v : Night). Begun count (b ++ balance_given (entry_in x)) (l ++ credit_of (entry_in x)) v.tables) (sym s)
    (go (ltb d.lines most_lines) (sym (ap (λ (v : Night). v.stage) s) ∙ q))
  where
    f : Night
    f = night_at d (G.Members count k)

    r : Did
    r = member_does (d.lines + 1) count k d.tables (entry_in x)

    go : (p : Bool) → let e = cond p (after_line f r) (stopped (d.lines + 1) f) in
        said_all e.stage ≡ G.Day → Begun count (b ++ balance_given (entry_in x)) (l ++ credit_of (entry_in x)) e.tables
    go true h = member-begun (d.lines + 1) count k d.tables g (entry_in x) h
    go false h = let z : ◌≡◌ {A = ℕ} 0 1 = cc in absurd (omega arith)

-- ---- all of them

run-gave : (d : Night) (ls : List Line) (b l : List ℤ) → Gave d.stage d.tables b l
    → Gave (run_of step_of d ls).stage (run_of step_of d ls).tables (b ++ balances_in ls) (l ++ credits_in ls)
unfolding run_of
run-gave d [] b l g = rw (append-nil b, append-nil l) g
run-gave d (x ∷ ls) b l g =
    rw (sym (append_assoc b (balance_given (entry_in x)) (balances_in ls)), sym (append_assoc l (credit_of (entry_in x)) (credits_in ls)))
    (run-gave (step_of d x) ls (b ++ balance_given (entry_in x)) (l ++ credit_of (entry_in x)) (step-gave d x b l g))

balances-join : (ls : List Line) (x : Line) → balances_in (ls ++ (x ∷ [])) ≡ balances_in ls ++ balance_given (entry_in x)
balances-join [] x = append-nil (balance_given (entry_in x))
balances-join (y ∷ ls) x = ap (λ (r : List ℤ). balance_given (entry_in y) ++ r) (balances-join ls x) ∙ sym (append_assoc (balance_given (entry_in y)) (balances_in ls) (balance_given (entry_in x)))

credits-join : (ls : List Line) (x : Line) → credits_in (ls ++ (x ∷ [])) ≡ credits_in ls ++ credit_of (entry_in x)
credits-join [] x = append-nil (credit_of (entry_in x))
credits-join (y ∷ ls) x = ap (λ (r : List ℤ). credit_of (entry_in y) ++ r) (credits-join ls x) ∙ sym (append_assoc (credit_of (entry_in y)) (credits_in ls) (credit_of (entry_in x)))

morning-gave : Gave G.House morning.tables [] []
morning-gave = record { sized = morning-sized; balances = refl; lines = refl }

-- an accepted open gives as many balances as members
begun-length : {n : ℕ} {b l : List ℤ} {T : Tables} → Begun n b l T → length b ≡ n
unfolding held open_act
begun-length {n} {b} {l} {T} o =
    let k = open_act n b l in
    let u : Outcome (Result ℤ Refusal) = outcome (Ok o.sum) T in
    let j : first (k.tests o.before) ≡ Ok tt = done-fine k o.before (first (k.tests o.before)) u (λ r e. let z : ◌≡◌ {A = ℕ} 0 1 = cc in omega arith) o.promise in
    let f : OpenFine o.before n b l = open-fine j in
    f.opening.balances

lines-begun : {ls : List Line} (o : Opens ls) → Begun o.count (balances_in ls) (credits_in ls) (opened_by ls)
unfolding run_of
lines-begun {ls} o =
    let d = night_after o.earlier in
    let s : night_after ls ≡ step_of d o.last = ap night_after o.parts ∙ run_join morning o.earlier (o.last ∷ []) in
    let g : Gives o.count o.given d.tables (balances_in o.earlier) (credits_in o.earlier) =
    subst (λ (v : Stage). Gave v d.tables (balances_in o.earlier) (credits_in o.earlier)) o.awaits (run-gave morning o.earlier [] [] morning-gave) in
    let b : Begun o.count (balances_in o.earlier ++ balance_given (entry_in o.last)) (credits_in o.earlier ++ credit_of (entry_in o.last)) (step_of d o.last).tables =
    step-begun d o.last o.awaits g (sym (ap (λ (v : Night). v.stage) s) ∙ o.opens) in
    rw (ap balances_in o.parts ∙ balances-join o.earlier o.last, ap credits_in o.parts ∙ credits-join o.earlier o.last)
    (subst (λ (v : Night). Begun o.count (balances_in o.earlier ++ balance_given (entry_in o.last)) (credits_in o.earlier ++ credit_of (entry_in o.last)) v.tables) (sym s) b)

-- the lines that open a house are an accepted open of the members, balances and lines that they give
pub opens-begun : {ls : List Line} → Opens ls → Begun (members_of ls) (balances_in ls) (credits_in ls) (opened_by ls)
opens-begun {ls} o = subst (λ n. Begun n (balances_in ls) (credits_in ls) (opened_by ls)) (sym (begun-length (lines-begun o))) (lines-begun o)
