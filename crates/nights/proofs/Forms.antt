-- Lines that open a house are a house line and its member lines, in order.
use mathlib.Core.Path.{◌≡◌, refl, sym, ap, ◌∙◌, subst}
use mathlib.Core.Bool.{Bool, true, false, cond, false≢true, ◌&&◌}
use mathlib.Core.List.{List, [], ◌∷◌, ◌++◌, append-nil, append_assoc}
use Prim.Native.Nat.{ℕ, ◌+◌, ◌<◌}
use native.Mathlib.Omega.{arith}
use borrow.Author.Tests.{eqb-true, leb-true, ltb-true, ltb-false}
use lib.Dec.{eqb, leb, ltb}
use lib.IntN.{ℤ}
use lib.ListN.{length, length-append}
use Rattle.tables.specs.Sizes.{members}
use Rattle.tables.specs.Layout.{Tables}
use Rattle.tables.proofs.Tests.{and_both}
use Rattle.std.specs.Prelude.{Ok, Err, Result}
use Rattle.answers.specs.declared.Refusal.{Refusal}
use Rattle.answers.specs.declared.Refusal.TheVariants as R
use Rattle.answers.specs.Outcome.{held}
use Rattle.opening.specs.Open.{open_act}
use Rattle.dayfile.specs.Entries as E
use Rattle.dayfile.specs.Entries.{most_lines, Entry}
use Rattle.dayfile.specs.Lines.{Line}
use Rattle.dayfile.specs.Chunks.{run_of}
use Rattle.night.specs.declared.Stage.{Stage}
use Rattle.night.specs.declared.Stage.TheVariants as G
use Rattle.night.specs.Lines.{Did, quiet, stops, house_does, given, balances_given, lines_given, open_stage, open_does, given_does, member_does, day_does, does_of}
use Rattle.night.specs.Stages.{is_over, said_all}
use Rattle.desk.specs.Sheet.{Night, after_line, stopped, entry_in, step_of, morning}
use Rattle.nights.specs.Files.{night_after, Opens}
use Rattle.nights.specs.Forms.{entries_in, member_lines, Opening}
use Rattle.nights.proofs.Runs.{run_join}

-- ---- the lines so far

-- a house line with this count, and k member lines
record Begins (count k : ℕ) (es : List Entry) : Type 0 where
  pub given : List (ℤ × ℕ)
  pub lines : es ≡ E.opening (E.house count) ∷ member_lines 0 given
  pub many : length given ≡ k
  pub more : k < count

abbrev Formed : Stage → List Entry → Type 0
Formed G.House es = es ≡ []
Formed (G.Members count k) es = Begins count k es
Formed G.Day es = Unit {0}
Formed (G.Ending k) es = Unit {0}
Formed G.Over es = Unit {0}

members-snoc : (k : ℕ) (ps : List (ℤ × ℕ)) (p : ℤ × ℕ) → member_lines k (ps ++ (p ∷ [])) ≡ member_lines k ps ++ (E.opening (E.member (k + length ps + 1) p.0 p.1) ∷ [])
members-snoc k [] p = ap (λ (i : ℕ). E.opening (E.member i p.0 p.1) ∷ []) (omega arith)
members-snoc k (q ∷ ps) p =
    let e : k + 1 + length ps + 1 ≡ k + length (q ∷ ps) + 1 = omega arith in
    ap (λ (l : List Entry). E.opening (E.member (k + 1) q.0 q.1) ∷ l)
    (members-snoc (k + 1) ps p ∙ ap (λ (i : ℕ). member_lines (k + 1) ps ++ (E.opening (E.member i p.0 p.1) ∷ [])) e)

-- one member line more
module _ {count k : ℕ} {es : List Entry} (b : Begins count k es) (x : ℤ) (y : ℕ) where
  lines_more : es ++ (E.opening (E.member (k + 1) x y) ∷ []) ≡ E.opening (E.house count) ∷ member_lines 0 (b.given ++ ((x, y) ∷ []))
  lines_more =
      let i : k + 1 ≡ 0 + length b.given + 1 = omega (arith, b.many) in
      ap (λ (l : List Entry). l ++ (E.opening (E.member (k + 1) x y) ∷ [])) b.lines
      ∙ ap (λ (j : ℕ). E.opening (E.house count) ∷ (member_lines 0 b.given ++ (E.opening (E.member j x y) ∷ []))) i
      ∙ ap (λ (l : List Entry). E.opening (E.house count) ∷ l) (sym (members-snoc 0 b.given (x, y)))

  many_more : length (b.given ++ ((x, y) ∷ [])) ≡ k + 1
  many_more = length-append b.given ((x, y) ∷ []) ∙ omega (arith, b.many)

-- ---- a line

open-formed : (o : Result ℤ Refusal) (es : List Entry) → Formed (said_all (open_stage o)) es
open-formed (Ok s) es = tt
open-formed (Err r) es = tt

house-formed : (n : ℕ) (t : Tables) (es : List Entry) → es ≡ [] → (e : Entry) → Formed (said_all (house_does n t e).stage) (es ++ (e ∷ []))
house-formed n t es q (E.opening (E.house count)) = go (leb 1 count && leb count members) refl
  where
    go : (p : Bool) → (leb 1 count && leb count members) ≡ p
        → Formed (said_all (cond p (quiet (G.Members count 0) t) (stops n R.Opening t)).stage) (es ++ (E.opening (E.house count) ∷ []))
    go true e = record {
      given = [];
      lines = ap (λ (l : List Entry). l ++ (E.opening (E.house count) ∷ [])) q;
      many = refl;
      more = leb-true 1 count (and_both (leb 1 count) (leb count members) e).0;
    }
    go false e = tt
house-formed n t es q (E.opening (E.member m x y)) = tt
house-formed n t es q (E.day d) = tt
house-formed n t es q E.end = tt
house-formed n t es q E.bad = tt

module _ (n count k : ℕ) (t : Tables) {es : List Entry} (b : Begins count k es) where
  given-formed : (x : ℤ) (y : ℕ) (v : Tables) (p : Bool) → ltb (k + 1) count ≡ p
      → Formed (said_all (cond p (quiet (G.Members count (k + 1)) v) (open_does n count v)).stage) (es ++ (E.opening (E.member (k + 1) x y) ∷ []))
  given-formed x y v true e = record { given = b.given ++ ((x, y) ∷ []); lines = lines_more b x y; many = many_more b x y; more = ltb-true (k + 1) count e }
  given-formed x y v false e = open-formed (held (open_act count (balances_given count v) (lines_given count v)) v).answer (es ++ (E.opening (E.member (k + 1) x y) ∷ []))

  member-formed : (e : Entry) → Formed (said_all (member_does n count k t e).stage) (es ++ (e ∷ []))
  member-formed (E.opening (E.house m)) = tt
  member-formed (E.opening (E.member m x y)) = go (eqb m (k + 1)) refl
    where
      go : (p : Bool) → eqb m (k + 1) ≡ p → Formed (said_all (cond p (given_does n count k (given t k x y)) (stops n R.Line t)).stage) (es ++ (E.opening (E.member m x y) ∷ []))
      go true e =
          subst (λ (i : ℕ). Formed (said_all (given_does n count k (given t k x y)).stage) (es ++ (E.opening (E.member i x y) ∷ []))) (sym (eqb-true m (k + 1) e))
          (given-formed x y (given t k x y) (ltb (k + 1) count) refl)
      go false e = tt
  member-formed (E.day d) = tt
  member-formed E.end = tt
  member-formed E.bad = tt

day-formed : (n : ℕ) (t : Tables) (e : Entry) (es : List Entry) → Formed (said_all (day_does n t e).stage) es
day-formed n t (E.opening o) es = tt
day-formed n t (E.day d) es = tt
day-formed n t E.end es = tt
day-formed n t E.bad es = tt

does-formed : (n : ℕ) (s : Stage) (t : Tables) (e : Entry) (es : List Entry) → Formed s es → Formed (said_all (does_of n s t e).stage) (es ++ (e ∷ []))
does-formed n G.House t e es f = house-formed n t es f e
does-formed n (G.Members count k) t e es f = member-formed n count k t f e
does-formed n G.Day t e es f = day-formed n t e (es ++ (e ∷ []))
does-formed n (G.Ending k) t e es f = tt
does-formed n G.Over t e es f = tt

over-formed : (s : Stage) → is_over s ≡ true → (es : List Entry) → Formed (said_all s) es
over-formed G.House e es = absurd (false≢true e)
over-formed (G.Members count k) e es = absurd (false≢true e)
over-formed G.Day e es = tt
over-formed (G.Ending k) e es = tt
over-formed G.Over e es = tt

step-formed : (d : Night) (x : Line) (es : List Entry) → Formed d.stage es → Formed (step_of d x).stage (es ++ (entry_in x ∷ []))
step-formed d x es f = go (is_over d.stage) refl (ltb d.lines most_lines)
  where
    r : Did
    r = does_of (d.lines + 1) d.stage d.tables (entry_in x)

    go : (o : Bool) → is_over d.stage ≡ o → (p : Bool) → Formed (said_all (cond o d (cond p (after_line d r) (stopped (d.lines + 1) d))).stage) (es ++ (entry_in x ∷ []))
    go true e p = over-formed d.stage e (es ++ (entry_in x ∷ []))
    go false e true = does-formed (d.lines + 1) d.stage d.tables (entry_in x) es f
    go false e false = tt

entries-join : (ls ms : List Line) → entries_in (ls ++ ms) ≡ entries_in ls ++ entries_in ms
entries-join [] ms = refl
entries-join (l ∷ ls) ms = ap (λ (es : List Entry). entry_in l ∷ es) (entries-join ls ms)

run-formed : (d : Night) (ls : List Line) (es : List Entry) → Formed d.stage es → Formed (run_of step_of d ls).stage (es ++ entries_in ls)
unfolding run_of
run-formed d [] es f = rw (append-nil es) f
run-formed d (x ∷ ls) es f = rw (sym (append_assoc es (entry_in x ∷ []) (entries_in ls))) (run-formed (step_of d x) ls (es ++ (entry_in x ∷ [])) (step-formed d x es f))

-- ---- the last line of the opening

-- it is the last member line
record LastLine (count k : ℕ) (e : Entry) : Type 0 where
  pub balance : ℤ
  pub line : ℕ
  pub is : e ≡ E.opening (E.member (k + 1) balance line)
  pub last : k + 1 ≡ count

module _ (n count k : ℕ) (t : Tables) (more : k < count) where
  given-last : (v : Tables) (p : Bool) → ltb (k + 1) count ≡ p → said_all (cond p (quiet (G.Members count (k + 1)) v) (open_does n count v)).stage ≡ G.Day → k + 1 ≡ count
  given-last v true e q = let z : ◌≡◌ {A = ℕ} 0 1 = cc in absurd (omega arith)
  given-last v false e q = omega (arith, ltb-false (k + 1) count e)

  member-last : (e : Entry) → said_all (member_does n count k t e).stage ≡ G.Day → LastLine count k e
  member-last (E.opening (E.house m)) q = let z : ◌≡◌ {A = ℕ} 0 1 = cc in absurd (omega arith)
  member-last (E.opening (E.member m x y)) q = go (eqb m (k + 1)) refl q
    where
      go : (p : Bool) → eqb m (k + 1) ≡ p → said_all (cond p (given_does n count k (given t k x y)) (stops n R.Line t)).stage ≡ G.Day → LastLine count k (E.opening (E.member m x y))
      go true e h = record {
        balance = x;
        line = y;
        is = ap (λ (i : ℕ). E.opening (E.member i x y)) (eqb-true m (k + 1) e);
        last = given-last (given t k x y) (ltb (k + 1) count) refl h;
      }
      go false e h = let z : ◌≡◌ {A = ℕ} 0 1 = cc in absurd (omega arith)
  member-last (E.day d) q = let z : ◌≡◌ {A = ℕ} 0 1 = cc in absurd (omega arith)
  member-last E.end q = let z : ◌≡◌ {A = ℕ} 0 1 = cc in absurd (omega arith)
  member-last E.bad q = let z : ◌≡◌ {A = ℕ} 0 1 = cc in absurd (omega arith)

step-last : (d : Night) (x : Line) (count k : ℕ) → k < count → d.stage ≡ G.Members count k → (step_of d x).stage ≡ G.Day → LastLine count k (entry_in x)
step-last d x count k m e q = go (ltb d.lines most_lines) (sym (ap (λ (s : Stage). (step_of (night_at s) x).stage) e) ∙ q)
  where
    night_at : Stage → Night
    night_at s = record { lines = d.lines; stage = s; tables = d.tables; sheet = d.sheet }

    r : Did
    r = member_does (d.lines + 1) count k d.tables (entry_in x)

    go : (p : Bool) → said_all (cond p (after_line (night_at (G.Members count k)) r) (stopped (d.lines + 1) (night_at (G.Members count k)))).stage ≡ G.Day → LastLine count k (entry_in x)
    go true h = member-last (d.lines + 1) count k d.tables m (entry_in x) h
    go false h = let z : ◌≡◌ {A = ℕ} 0 1 = cc in absurd (omega arith)

-- lines that open a house are a house line with its count and that many member lines, in order
pub opens-form : {ls : List Line} → Opens ls → Opening ls
unfolding run_of
opens-form {ls} o =
    let d = night_after o.earlier in
    let s : night_after ls ≡ step_of d o.last = ap night_after o.parts ∙ run_join morning o.earlier (o.last ∷ []) in
    let b : Begins o.count o.given (entries_in o.earlier) = subst (λ (g : Stage). Formed g (entries_in o.earlier)) o.awaits (run-formed morning o.earlier [] refl) in
    let l = step-last d o.last o.count o.given b.more o.awaits (sym (ap (λ (v : Night). v.stage) s) ∙ o.opens) in
    let ps = b.given ++ ((l.balance, l.line) ∷ []) in
    let n : o.count ≡ length ps = sym l.last ∙ sym (many_more b l.balance l.line) in
    record {
      members = ps;
      lines =
          ap entries_in o.parts ∙ entries-join o.earlier (o.last ∷ [])
          ∙ ap (λ (e : Entry). entries_in o.earlier ++ (e ∷ [])) l.is
          ∙ lines_more b l.balance l.line
          ∙ ap (λ (i : ℕ). E.opening (E.house i) ∷ member_lines 0 ps) n;
    }
