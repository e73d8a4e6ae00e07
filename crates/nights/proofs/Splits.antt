-- A file has one opening and one day: where it falls into opening, day and end is fixed.
use mathlib.Core.Path.{◌≡◌, refl, sym, ap, ◌∙◌}
use mathlib.Core.Bool.{Bool, true, false, cond, false≢true}
use mathlib.Core.List.{List, [], ◌∷◌, ◌++◌, append-nil}
use Prim.Native.Nat.{ℕ, ◌+◌}
use native.Mathlib.Omega.{arith}
use lib.Dec.{ltb}
use lib.ListN.{length, length-append}
use Rattle.rule.specs.Lists.{Each}
use Rattle.tables.specs.Layout.{Tables}
use Rattle.dayfile.specs.Entries as E
use Rattle.dayfile.specs.Entries.{most_lines, Entry}
use Rattle.dayfile.specs.Lines.{Line}
use Rattle.dayfile.specs.Chunks.{run_of}
use Rattle.night.specs.declared.Stage.{Stage}
use Rattle.night.specs.declared.Stage.TheVariants as G
use Rattle.night.specs.Lines.{day_does, does_of}
use Rattle.night.specs.Stages.{is_over, said_all}
use Rattle.desk.specs.Sheet.{Night, after_line, stopped, entry_in, step_of, morning}
use Rattle.nights.specs.Files.{is_end, night_after, Opens, Whole}
use Rattle.nights.proofs.Runs.{run_join}

-- ---- two beginnings of one list

data Compared {A : Type 0} (es cs : List A) : Type 0 where
  same : es ≡ cs → Compared es cs
  longer : (x : A) (xs : List A) → cs ≡ es ++ (x ∷ xs) → Compared es cs
  shorter : (x : A) (xs : List A) → es ≡ cs ++ (x ∷ xs) → Compared es cs

behind-one : {A : Type 0} {es cs : List A} (a c : A) → a ≡ c → Compared es cs → Compared (a ∷ es) (c ∷ cs)
behind-one a c e (same f) = same (cc)
behind-one {es = es} a c e (longer x xs f) = longer x xs (let g : c ∷ (es ++ (x ∷ xs)) ≡ a ∷ (es ++ (x ∷ xs)) = cc in ap (λ l. c ∷ l) f ∙ g)
behind-one {cs = cs} a c e (shorter x xs f) = shorter x xs (let g : a ∷ (cs ++ (x ∷ xs)) ≡ c ∷ (cs ++ (x ∷ xs)) = cc in ap (λ l. a ∷ l) f ∙ g)

compared : {A : Type 0} (es cs bs ds : List A) → es ++ bs ≡ cs ++ ds → Compared es cs
compared [] [] bs ds e = same refl
compared [] (c ∷ cs) bs ds e = longer c cs refl
compared (a ∷ es) [] bs ds e = shorter a es refl
compared (a ∷ es) (c ∷ cs) bs ds e = let f : a ≡ c = cc in let g : es ++ bs ≡ cs ++ ds = cc in behind-one a c f (compared es cs bs ds g)

drop-same : {A : Type 0} (os bs ds : List A) → os ++ bs ≡ os ++ ds → bs ≡ ds
drop-same [] bs ds e = e
drop-same (o ∷ os) bs ds e = let f : os ++ bs ≡ os ++ ds = cc in drop-same os bs ds f

-- ---- once it is day, no member line is awaited again

abbrev is_open : Stage → Bool
is_open G.House = false
is_open (G.Members count k) = false
is_open G.Day = true
is_open (G.Ending k) = true
is_open G.Over = true

told-open : (g : Stage) → is_open g ≡ true → is_open (said_all g) ≡ true
told-open G.House e = e
told-open (G.Members count k) e = e
told-open G.Day e = e
told-open (G.Ending k) e = refl
told-open G.Over e = refl

day-open : (n : ℕ) (t : Tables) (e : Entry) → is_open (day_does n t e).stage ≡ true
day-open n t (E.opening o) = refl
day-open n t (E.day d) = refl
day-open n t E.end = refl
day-open n t E.bad = refl

does-open : (n : ℕ) (t : Tables) (e : Entry) (g : Stage) → is_open g ≡ true → is_open (does_of n g t e).stage ≡ true
does-open n t e G.House q = absurd (false≢true q)
does-open n t e (G.Members count k) q = absurd (false≢true q)
does-open n t e G.Day q = day-open n t e
does-open n t e (G.Ending k) q = refl
does-open n t e G.Over q = refl

step-open : (d : Night) (l : Line) → is_open d.stage ≡ true → is_open (step_of d l).stage ≡ true
step-open d l q = go (is_over d.stage) (ltb d.lines most_lines)
  where
    go : (o b : Bool) → is_open (said_all (cond o d (cond b (after_line d (does_of (d.lines + 1) d.stage d.tables (entry_in l))) (stopped (d.lines + 1) d))).stage) ≡ true
    go true b = told-open d.stage q
    go false true = told-open (does_of (d.lines + 1) d.stage d.tables (entry_in l)).stage (does-open (d.lines + 1) d.tables (entry_in l) d.stage q)
    go false false = refl

run-open : (d : Night) (ls : List Line) → is_open d.stage ≡ true → is_open (run_of step_of d ls).stage ≡ true
unfolding run_of
run-open d [] q = q
run-open d (l ∷ ls) q = run-open (step_of d l) ls (step-open d l q)

-- ---- one opening

-- lines behind an opening can't have the last of another before them
no-later : {os ps : List Line} (xs : List Line) → Opens os → (p : Opens ps) → p.earlier ≡ os ++ xs → ⊥
no-later {os} xs o p e =
    let a : is_open (night_after p.earlier).stage ≡ true =
    ap (λ (ls : List Line). is_open (night_after ls).stage) e ∙ ap (λ (d : Night). is_open d.stage) (run_join morning os xs)
    ∙ run-open (night_after os) xs (ap is_open o.opens) in
    false≢true (sym (ap is_open p.awaits) ∙ a)

not-longer : {os ps : List Line} (x : Line) (xs : List Line) → Opens os → Opens ps → ps ≡ os ++ (x ∷ xs) → ⊥
not-longer {os} {ps} x xs o p e = go (compared p.earlier os (p.last ∷ []) (x ∷ xs) (sym p.parts ∙ e))
  where
    go : Compared p.earlier os → ⊥
    go (same f) = no-later [] o p (f ∙ sym (append-nil os))
    go (longer y ys f) =
        omega (arith, ap length e, length-append os (x ∷ xs), ap length p.parts, length-append p.earlier (p.last ∷ []), ap length f, length-append p.earlier (y ∷ ys))
    go (shorter y ys f) = no-later (y ∷ ys) o p f

-- ---- one day

abbrev on_day : Line → Type 0
on_day l = is_end (entry_in l) ≡ false

one-day : (day day₁ : List Line) (last last₁ : Line) (rest rest₁ : List Line) → Each on_day day → Each on_day day₁ → is_end (entry_in last) ≡ true → is_end (entry_in last₁) ≡ true
    → day ++ (last ∷ rest) ≡ day₁ ++ (last₁ ∷ rest₁) → day ≡ day₁
one-day [] [] last last₁ rest rest₁ on on₁ e e₁ q = refl
one-day [] (l ∷ ls) last last₁ rest rest₁ on on₁ e e₁ q =
    let f : last ≡ l = cc in
    absurd (false≢true (sym on₁.0 ∙ ap (λ (k : Line). is_end (entry_in k)) (sym f) ∙ e))
one-day (l ∷ ls) [] last last₁ rest rest₁ on on₁ e e₁ q =
    let f : l ≡ last₁ = cc in
    absurd (false≢true (sym on.0 ∙ ap (λ (k : Line). is_end (entry_in k)) f ∙ e₁))
one-day (l ∷ ls) (k ∷ ks) last last₁ rest rest₁ on on₁ e e₁ q =
    let f : l ≡ k = cc in
    let g : ls ++ (last ∷ rest) ≡ ks ++ (last₁ ∷ rest₁) = cc in
    let m : ls ≡ ks = one-day ls ks last last₁ rest rest₁ on.1 on₁.1 e e₁ g in
    let z : l ∷ ls ≡ k ∷ ks = cc in
    z

-- ---- a file

module _ {opening opening₁ day day₁ : List Line} {file : List ℕ} (w : Whole opening day file) (v : Whole opening₁ day₁ file) where
  abbrev ending : List Line
  ending = day ++ (w.last ∷ w.rest)

  abbrev ending₁ : List Line
  ending₁ = day₁ ++ (v.last ∷ v.rest)

  lines_same : opening ++ ending ≡ opening₁ ++ ending₁
  lines_same = sym w.parts ∙ v.parts

  -- its opening lines
  pub one-opening : opening ≡ opening₁
  one-opening = go (compared opening opening₁ ending ending₁ lines_same)
    where
      go : Compared opening opening₁ → opening ≡ opening₁
      go (same e) = e
      go (longer x xs e) = absurd (not-longer x xs w.opens v.opens e)
      go (shorter x xs e) = absurd (not-longer x xs v.opens w.opens e)

  -- and the lines of its day
  pub one_split : (opening ≡ opening₁) × (day ≡ day₁)
  one_split =
      let e : ending ≡ ending₁ = drop-same opening ending ending₁ (lines_same ∙ ap (λ (ls : List Line). ls ++ ending₁) (sym one-opening)) in
      (one-opening, one-day day day₁ w.last v.last w.rest v.rest w.goes_on v.goes_on w.ends v.ends e)
