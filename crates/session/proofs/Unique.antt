-- Two results of one call are the same: the place where it stopped, the state, the tables, the whole output, and what is held of the next
-- line. What the line buffer has behind that, and the list of counts, are only lent to work in.
use mathlib.Core.Path.{◌≡◌, sym, ap, ◌∙◌}
use mathlib.Core.Bool.{Bool}
use mathlib.Core.List.{List, [], ◌++◌}
use Prim.Native.Nat.{ℕ, ◌≤◌}
use native.Mathlib.Omega.{arith}
use lib.ListN.{length, take, drop, take-append-drop, length-drop}
use lib.Seq.{length-take-le}
use Rattle.dayfile.specs.Lines.{most_bytes}
use Rattle.night.specs.declared.Stage.{Stage}
use Rattle.tables.specs.Layout.{Tables}
use Rattle.desk.specs.declared.State.{State}
use Rattle.desk.specs.declared.Turn.{Turn}
use Rattle.session.specs.Stops.{Stops}
use Rattle.desk.specs.Desk.{Desk}
use Rattle.session.specs.Turns.{turn_of, close_turn, goes_on, closes_on}
use Rattle.desk.specs.States.{desk_of, Grown, Fit}
use Rattle.session.proofs.Stopping.{stops-one}

-- a result of a call that found the first used bytes of the output written, with the lists as they are then
pub record Result (used : ℕ) (out₀ : List ℕ) (s : State) (t : Tables) (out buf : List ℕ) : Type 0 where
  pub fit : Fit s t (length out₀)
  pub grown : Grown used s.used out₀ out
  pub long : length out ≡ length out₀
  pub line : length buf ≡ most_bytes

pub record Same (s q : State) (t u : Tables) (out out₁ buf buf₁ : List ℕ) : Type 0 where
  pub state : s ≡ q
  pub tables : t ≡ u
  pub output : out ≡ out₁
  pub held : take s.cut.held buf ≡ take q.cut.held buf₁

abbrev state_by : ℕ → Stage → ℕ → ℕ → Bool → State
state_by lines stage used held long = record { lines = lines; stage = stage; used = used; cut = record { held = held; is_long = long } }

state-same : (s q : State) → s.lines ≡ q.lines → s.stage ≡ q.stage → s.used ≡ q.used → s.cut.held ≡ q.cut.held → s.cut.is_long ≡ q.cut.is_long → s ≡ q
state-same s q a b d e f =
    let z : state_by s.lines s.stage s.used s.cut.held s.cut.is_long ≡ state_by q.lines q.stage q.used q.cut.held q.cut.is_long = rw (a, b, d, e, f) in
    z

both-parts : (m n : ℕ) (l k o : List ℕ) → m ≡ n → take m l ≡ take n k → drop m l ≡ drop m o → drop n k ≡ drop n o → l ≡ k
both-parts m n l k o e a b d =
    let f : drop m l ≡ drop n k = b ∙ ap (λ (i : ℕ). drop i o) e ∙ sym d in
    sym (take-append-drop m l) ∙ ap (λ (x : List ℕ). x ++ drop m l) a ∙ ap (λ (x : List ℕ). take n k ++ x) f ∙ take-append-drop n k

module _ {used : ℕ} {out₀ : List ℕ} {t u : Tables} {out out₁ buf buf₁ : List ℕ} where
  desk-same : {s q : State} (rest rest₁ : List ℕ) → Result used out₀ s t out buf → Result used out₀ q u out₁ buf₁
      → desk_of rest s t out buf ≡ desk_of rest₁ q u out₁ buf₁ → Same s q t u out out₁ buf buf₁
  desk-same {s} {q} rest rest₁ a b e =
      let written : take s.used out ≡ take q.used out₁ = ap (λ (d : Desk). d.night.sheet) e in
      let held : take s.cut.held buf ≡ take q.cut.held buf₁ = ap (λ (d : Desk). d.held.bytes) e in
      let m : s.used ≤ length out = omega (arith, a.fit.room, a.long) in
      let o : q.used ≤ length out₁ = omega (arith, b.fit.room, b.long) in
      let i : s.cut.held ≤ length buf = omega (arith, a.fit.held, a.line) in
      let j : q.cut.held ≤ length buf₁ = omega (arith, b.fit.held, b.line) in
      let same : s.used ≡ q.used = sym (length-take-le s.used out m) ∙ ap length written ∙ length-take-le q.used out₁ o in
      let kept : s.cut.held ≡ q.cut.held = sym (length-take-le s.cut.held buf i) ∙ ap length held ∙ length-take-le q.cut.held buf₁ j in
      record {
        state = state-same s q (ap (λ (d : Desk). d.night.lines) e) (ap (λ (d : Desk). d.night.stage) e) same kept (ap (λ (d : Desk). d.held.over) e);
        tables = ap (λ (d : Desk). d.night.tables) e;
        output = both-parts s.used q.used out out₁ out₀ same written a.grown.rest b.grown.rest;
        held = held;
      }

  -- a chunk fed,
  pub feed-one : (chunk : List ℕ) {d : Desk} {r q : Turn} → Result used out₀ r.state t out buf → Result used out₀ q.state u out₁ buf₁ → r.at ≤ length chunk → q.at ≤ length chunk
      → Stops turn_of (goes_on (length out₀)) d (desk_of (drop r.at chunk) r.state t out buf)
      → Stops turn_of (goes_on (length out₀)) d (desk_of (drop q.at chunk) q.state u out₁ buf₁)
      → (r.at ≡ q.at) × Same r.state q.state t u out out₁ buf buf₁
  feed-one chunk {d} {r} {q} a b l m x y =
      let e = stops-one x y in
      let k : length (drop r.at chunk) ≡ length (drop q.at chunk) = ap (λ (d : Desk). length d.rest) e in
      (omega (arith, k, length-drop r.at chunk, length-drop q.at chunk), desk-same (drop r.at chunk) (drop q.at chunk) a b e)

  -- and the end of the input
  pub close-one : {d : Desk} {r q : State} → Result used out₀ r t out buf → Result used out₀ q u out₁ buf₁
      → Stops close_turn (closes_on (length out₀)) d (desk_of [] r t out buf) → Stops close_turn (closes_on (length out₀)) d (desk_of [] q u out₁ buf₁)
      → Same r q t u out out₁ buf buf₁
  close-one a b x y = desk-same [] [] a b (stops-one x y)
