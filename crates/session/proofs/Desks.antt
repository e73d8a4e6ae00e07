-- A turn, as the code holds it: that another follows exactly where it goes on, and that turns come to an end.
use mathlib.Core.Path.{◌≡◌, refl, sym, ◌∙◌}
use mathlib.Core.Bool.{Bool, true, false, false≢true}
use mathlib.Core.List.{List, [], ◌∷◌}
use Prim.Native.Nat.{ℕ, zero, suc, ◌+◌, ◌-◌, ◌≤◌, ◌<◌}
use native.Mathlib.Omega.{arith}
use borrow.Author.Tests.{ltb-true, ltb-false, lt-ltb, le-ltb}
use lib.Dec.{ltb}
use lib.ListN.{length, take, drop, length-drop}
use lib.Seq.{length-take-le}
use Rattle.dayfile.specs.Chunks.{held_line, state_of}
use Rattle.night.specs.declared.Stage.{Stage}
use Rattle.night.specs.declared.Stage.TheVariants as G
use Rattle.tables.specs.Layout.{Tables}
use Rattle.desk.specs.declared.State.{State}
use Rattle.night.specs.Stages.{is_ending, is_over}
use Rattle.desk.specs.Sheet.{answered}
use Rattle.session.specs.Stops.{Runs}
use Rattle.desk.specs.Desk.{Desk}
use Rattle.session.specs.Turns.{last_night, goes_on, closes_on}
use Rattle.desk.specs.States.{night_of, desk_of, most_ending, turns_left, Grown, Fit}
use Rattle.session.specs.Feeding.{goes_at, closes_at}
use Rattle.session.proofs.Stopping.{runs_none, runs-next}
use Rattle.desk.proofs.Writing.{grown-none, grown-more}

-- at the end of the input, a last line that no byte 10 ended
pub last_line : (s : State) (t : Tables) (out buf : List ℕ) → 0 < s.cut.held → s.cut.held ≤ length buf
    → answered (night_of s t out) (held_line (state_of buf s.cut)) ≡ last_night (take s.cut.held buf) (desk_of [] s t out buf)
last_line s t out buf l h = go buf s.cut.held l h
  where
    go : (b : List ℕ) (k : ℕ) → 0 < k → k ≤ length b
        → answered (night_of s t out) (held_line (state_of buf s.cut)) ≡ last_night (take k b) (desk_of [] s t out buf)
    go b zero l h = absurd (omega arith)
    go [] (suc k) l h = absurd (omega arith)
    go (x ∷ b) (suc k) l h = refl

-- bytes are left behind a place of the chunk
some_left : (at n : ℕ) → ltb 0 (n - at) ≡ ltb at n
some_left at n = go (ltb at n) refl
  where
    go : (b : Bool) → ltb at n ≡ b → ltb 0 (n - at) ≡ b
    go true e = let l = ltb-true at n e in lt-ltb 0 (n - at) (omega arith)
    go false e = let l = ltb-false at n e in le-ltb 0 (n - at) (omega arith)

-- ---- turns come to an end

left_at : (g : Stage) (n : ℕ) → is_over g ≡ false → is_ending g ≡ false → turns_left g n ≡ most_ending + 2 + n
left_at G.House n o e = refl
left_at (G.Members count k) n o e = refl
left_at G.Day n o e = refl
left_at (G.Ending k) n o e = absurd (false≢true (sym e))
left_at G.Over n o e = absurd (false≢true (sym o))

left-most : (g : Stage) (n : ℕ) → turns_left g n ≤ most_ending + 2 + n
left-most G.House n = omega arith
left-most (G.Members count k) n = omega arith
left-most G.Day n = omega arith
left-most (G.Ending k) n = omega arith
left-most G.Over n = omega arith

-- where bytes were read
pub fewer_bytes : (g h : Stage) (m n : ℕ) → m < n → is_over h ≡ false → is_ending h ≡ false → turns_left g m < turns_left h n
fewer_bytes g h m n l o e = rw (left_at h n o e) (omega (arith, left-most g m))

-- with the same number of bytes of output
pub fit_at : {s : State} {t : Tables} {m : ℕ} (n : ℕ) → m ≡ n → Fit s t m → Fit s t n
fit_at n e f = record { few = f.few; room = omega (arith, f.room); held = f.held; stands = f.stands }

-- ---- between two turns: how the night came here from where it was, with the lists as they were lent

-- by turns from d, with the output as it was then and so many of its bytes used
pub record Going (turn : Desk → Desk) (goes : Desk → Bool) (d : Desk) (used : ℕ) (out₀ rest buf out : List ℕ) (t : Tables) (s : State) : Type 0 where
  pub fit : Fit s t (length out₀)
  pub long : length out ≡ length out₀
  pub grown : Grown used s.used out₀ out
  pub run : Runs turn goes d (desk_of rest s t out buf)

module _ {turn : Desk → Desk} {goes : Desk → Bool} where
  -- at first,
  pub going-first : {s : State} {t : Tables} {buf : List ℕ} (rest out : List ℕ) → Fit s t (length out)
      → Going turn goes (desk_of rest s t out buf) s.used out rest buf out t s
  going-first {s} {t} {buf} rest out f =
      record { fit = f; long = refl; grown = grown-none s.used out; run = runs_none (desk_of rest s t out buf) }

  module _ {d : Desk} {used : ℕ} {out₀ buf out : List ℕ} {t : Tables} {s : State} where
    -- after one turn more;
    pub going_next : {rest rest₁ buf₁ out₁ : List ℕ} {u : Tables} {r : State} → Going turn goes d used out₀ rest buf out t s
        → goes (desk_of rest s t out buf) ≡ true
        → desk_of rest₁ r u out₁ buf₁ ≡ turn (desk_of rest s t out buf) → Fit r u (length out) → Grown s.used r.used out out₁
        → length out₁ ≡ length out → Going turn goes d used out₀ rest₁ buf₁ out₁ u r
    going_next {rest₁ = rest₁} {buf₁} {out₁} {u} {r} g e q f w o =
        record {
          fit = fit_at (length out₀) g.long f;
          long = o ∙ g.long;
          grown = grown-more g.grown w;
          run = runs-next (desk_of rest₁ r u out₁ buf₁) g.run e q;
        }

    -- the code tells where it goes on,
    pub goes-at : (chunk : List ℕ) (at : ℕ) {b : Bool} → Going turn goes d used out₀ (drop at chunk) buf out t s
        → goes_at (length chunk) (length out) (record { at = at; state = s }) ≡ b → goes_on (length out₀) (desk_of (drop at chunk) s t out buf) ≡ b
    goes-at chunk at g e =
        let room : s.used ≤ length out = omega (arith, g.fit.room, g.long) in
        rw (← g.long, length-take-le s.used out room, length-drop at chunk, some_left at (length chunk)) e

    -- and at the end of the input
    pub closes-at : {rest : List ℕ} {b : Bool} → Going turn goes d used out₀ rest buf out t s
        → closes_at (length out) s ≡ b → closes_on (length out₀) (desk_of rest s t out buf) ≡ b
    closes-at g e =
        let room : s.used ≤ length out = omega (arith, g.fit.room, g.long) in
        rw (← g.long, length-take-le s.used out room) e
