-- Chunks of any size give the lines of the whole file: byte by byte is line by line, and a chunk and then another is both at once.
use native.Mathlib.Omega.{arith}
use mathlib.Core.Path.{◌≡◌, refl, sym, ap, ◌∙◌}
use mathlib.Core.Bool.{Bool, true, false, cond}
use mathlib.Core.List.{List, [], ◌∷◌, ◌++◌}
use Prim.Native.Nat.{ℕ, suc, ◌≤◌, ◌<◌}
use lib.Dec.{ltb, eqb}
use lib.ListN.{length, take, drop, length-append}
use lib.Seq.{take_all, take-append-le, length-take-le}
use borrow.Author.Tests.{ltb-true, ltb-false, lt-ltb, le-ltb}
use Rattle.dayfile.specs.Chunks.{Held, nothing_held, pushed, held_line, Eaten, more, eat_of, Fed, byte_of, feed_of, end_by, finish, run_of, feed_all, joined}
use Rattle.dayfile.specs.Lines.{most_bytes, Line, text, long, judge, last, lines_from, lines_of}

-- the state that the bytes u of a line leave
abbrev cut_of : List ℕ → Held
cut_of u = record { bytes = take most_bytes u; over = ltb most_bytes (length u) }

by-ltb : (x y : ℕ) (P : Bool → Type 0) → (x < y → P true) → (y ≤ x → P false) → P (ltb x y)
by-ltb x y P f g = go (ltb x y) refl
  where
    go : (b : Bool) → ltb x y ≡ b → P b
    go true e = f (ltb-true x y e)
    go false e = g (ltb-false x y e)

line-cut : (u : List ℕ) → held_line (cut_of u) ≡ judge u
line-cut u = by-ltb most_bytes (length u) (λ p. cond p long (text (take most_bytes u)) ≡ cond p long (text u)) (λ h. refl) (λ h. ap text (take_all most_bytes u h))

push-short : (b : ℕ) (u : List ℕ) → length u < most_bytes → pushed b (cut_of u) ≡ cut_of (u ++ (b ∷ []))
push-short b u h =
    let t : take most_bytes u ≡ u = take_all most_bytes u (omega arith) in
    let n : length (u ++ (b ∷ [])) ≤ most_bytes = simp length-append (omega arith) in
    let m : length u ≤ most_bytes = omega arith in
    rw (t, lt-ltb (length u) most_bytes h, le-ltb most_bytes (length u) m, take_all most_bytes (u ++ (b ∷ [])) n, le-ltb most_bytes (length (u ++ (b ∷ []))) n)

push-long : (b : ℕ) (u : List ℕ) → most_bytes ≤ length u → pushed b (cut_of u) ≡ cut_of (u ++ (b ∷ []))
push-long b u h =
    let t : length (take most_bytes u) ≡ most_bytes = length-take-le most_bytes u h in
    let j : most_bytes ≤ length (take most_bytes u) = omega arith in
    let n : most_bytes < length (u ++ (b ∷ [])) = simp length-append (omega arith) in
    rw (le-ltb (length (take most_bytes u)) most_bytes j, take-append-le most_bytes u (b ∷ []) h, lt-ltb most_bytes (length (u ++ (b ∷ []))) n)

push-cut : (b : ℕ) (u : List ℕ) → pushed b (cut_of u) ≡ cut_of (u ++ (b ∷ []))
push-cut b u = by-ltb (length u) most_bytes (λ p. pushed b (cut_of u) ≡ cut_of (u ++ (b ∷ []))) (push-short b u) (push-long b u)

module _ {D : Type 0} (step : D → Line → D) where
  -- a chunk and then another is both at once
  pub feed-append : (a b : List ℕ) (f : Fed D) → feed_of step (a ++ b) f ≡ feed_of step b (feed_of step a f)
  unfolding feed_of
  feed-append [] b f = refl
  feed-append (x ∷ a) b f = feed-append a b (byte_of step x f)

  -- chunks one after the other are the whole file at once
  pub feed-all : (cs : List (List ℕ)) (f : Fed D) → feed_all step cs f ≡ feed_of step (joined cs) f
  unfolding feed_of feed_all
  feed-all [] f = refl
  feed-all (a ∷ cs) f = feed-all cs (feed_of step a f) ∙ sym (feed-append a (joined cs) f)

  end-cut : (u : List ℕ) (d : D) → end_by step (take most_bytes u) d (held_line (cut_of u)) ≡ run_of step d (last u)
  unfolding run_of
  end-cut [] d = refl
  end-cut (b ∷ u) d = ap (step d) (line-cut (b ∷ u))

  -- byte by byte is line by line
  feed-by : (b : ℕ) (s u : List ℕ) (d : D) (p : Bool)
      → ((v : List ℕ) (e : D) → finish step (feed_of step s (record { day = e; held = cut_of v })) ≡ run_of step e (lines_from v s))
      → finish step (feed_of step s (cond p (record { day = step d (held_line (cut_of u)); held = nothing_held }) (record { day = d; held = pushed b (cut_of u) })))
      ≡ run_of step d (cond p (judge u ∷ lines_from [] s) (lines_from (u ++ (b ∷ [])) s))
  unfolding run_of
  feed-by b s u d true ih = rw (line-cut u) (ih [] (step d (judge u)))
  feed-by b s u d false ih = rw (push-cut b u) (ih (u ++ (b ∷ [])) d)

  -- bytes fed behind those of a line that is not ended give the lines that begin with it
  pub feed-lines : (s u : List ℕ) (d : D) → finish step (feed_of step s (record { day = d; held = cut_of u })) ≡ run_of step d (lines_from u s)
  unfolding feed_of lines_from
  feed-lines [] u d = end-cut u d
  feed-lines (b ∷ s) u d = feed-by b s u d (eqb b 10) (λ v e. feed-lines s v e)

  -- the law: chunks of any size, one after the other, and the last line, come to the lines of the whole file
  pub chunks : (cs : List (List ℕ)) (d : D) → finish step (feed_all step cs (record { day = d; held = nothing_held })) ≡ run_of step d (lines_of (joined cs))
  chunks cs d = ap (finish step) (feed-all cs (record { day = d; held = nothing_held })) ∙ feed-lines (joined cs) [] d

  -- what eating finds, fed
  eaten-by : (b : ℕ) (s : List ℕ) (h : Held) (d : D) (p : Bool)
      → ((k : Held) → feed_of step s (record { day = d; held = k }) ≡ cond (eat_of s k).done
      (feed_of step (drop (eat_of s k).used s) (record { day = step d (held_line (eat_of s k).held); held = nothing_held }))
      (record { day = d; held = (eat_of s k).held }))
      → feed_of step s (cond p (record { day = step d (held_line h); held = nothing_held }) (record { day = d; held = pushed b h }))
      ≡ cond (cond p (record { done = true; used = 1; held = h }) (more (eat_of s (pushed b h)))).done
      (feed_of step (drop (cond p (record { done = true; used = 1; held = h }) (more (eat_of s (pushed b h)))).used (b ∷ s))
      (record { day = step d (held_line (cond p (record { done = true; used = 1; held = h }) (more (eat_of s (pushed b h)))).held); held = nothing_held }))
      (record { day = d; held = (cond p (record { done = true; used = 1; held = h }) (more (eat_of s (pushed b h)))).held })
  eaten-by b s h d true ih = refl
  eaten-by b s h d false ih = ih (pushed b h)

  -- a chunk is fed line by line, as eating finds them
  pub feed-eaten : (s : List ℕ) (h : Held) (d : D) → feed_of step s (record { day = d; held = h })
      ≡ cond (eat_of s h).done (feed_of step (drop (eat_of s h).used s) (record { day = step d (held_line (eat_of s h).held); held = nothing_held }))
      (record { day = d; held = (eat_of s h).held })
  unfolding feed_of eat_of
  feed-eaten [] h d = refl
  feed-eaten (b ∷ s) h d = eaten-by b s h d (eqb b 10) (λ k. feed-eaten s k d)

eats-by : (p : Bool) (h : Held) (e : Eaten) → 0 < (cond p (record { done = true; used = 1; held = h }) (more e)).used
eats-by true h e = omega arith
eats-by false h e = omega arith

-- eating uses a byte where there is one
pub eats : (s : List ℕ) (h : Held) → 0 < length s → 0 < (eat_of s h).used
unfolding eat_of
eats [] h l = absurd (omega arith)
eats (b ∷ s) h l = eats-by (eqb b 10) h (eat_of s (pushed b h))

-- what each line leaves alone, all bytes leave alone: as bytes of the output that were written out and taken away
module _ {D : Type 0} (step : D → Line → D) (φ : D → D) (same : (d : D) (l : Line) → step (φ d) l ≡ φ (step d l)) where
  abbrev pub under : Fed D → Fed D
  under f = record { day = φ f.day; held = f.held }

  under-by : (b : ℕ) (f : Fed D) (p : Bool)
      → ◌≡◌ {A = Fed D} (cond p (record { day = step (φ f.day) (held_line f.held); held = nothing_held }) (record { day = φ f.day; held = pushed b f.held }))
      (under (cond p (record { day = step f.day (held_line f.held); held = nothing_held }) (record { day = f.day; held = pushed b f.held })))
  under-by b f true = rw (same f.day (held_line f.held))
  under-by b f false = refl

  pub feed-under : (s : List ℕ) (f : Fed D) → feed_of step s (under f) ≡ under (feed_of step s f)
  unfolding feed_of
  feed-under [] f = refl
  feed-under (b ∷ s) f = ap (feed_of step s) (under-by b f (eqb b 10)) ∙ feed-under s (byte_of step b f)

all-by : (p : Bool) (b : ℕ) (s : List ℕ) (h : Held) (e : Eaten) → (e.done ≡ false → e.used ≡ length s)
    → (cond p (record { done = true; used = 1; held = h }) (more e)).done ≡ false
    → (cond p (record { done = true; used = 1; held = h }) (more e)).used ≡ length (b ∷ s)
all-by true b s h e ih q = let z : ◌≡◌ {A = ℕ} 0 1 = cc in absurd (omega arith)
all-by false b s h e ih q = ap suc (ih q)

-- where no line is ended, all bytes were used
pub eaten-all : (s : List ℕ) (h : Held) → (eat_of s h).done ≡ false → (eat_of s h).used ≡ length s
unfolding eat_of
eaten-all [] h q = refl
eaten-all (b ∷ s) h q = all-by (eqb b 10) b s h (eat_of s (pushed b h)) (eaten-all s (pushed b h)) q
