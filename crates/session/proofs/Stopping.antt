-- Turns stop at one place alone: where it goes on no more for the first time. What each turn leaves alone, all of them leave alone.
use mathlib.Core.Path.{◌≡◌, refl, sym, ap, ◌∙◌}
use mathlib.Core.Bool.{Bool, true, false, false≢true}
use Prim.Native.Nat.{ℕ, zero, suc, ◌<◌}
use native.Mathlib.Omega.{arith}
use borrow.Author.Tests.{ltb-true, ltb-false}
use lib.Dec.{ltb}
use Rattle.session.specs.Stops.{turned, Runs, Stops}

module _ {D : Type 0} {turn : D → D} {goes : D → Bool} where
  -- no turn yet,
  pub runs_none : (d : D) → Runs turn goes d d
  unfolding turned
  runs_none d = record { count = 0; place = refl; on = λ k l. absurd (omega arith) }

  -- and one turn more
  pub runs-next : {d e : D} (f : D) → Runs turn goes d e → goes e ≡ true → f ≡ turn e → Runs turn goes d f
  unfolding turned
  runs-next {d} {e} f r g q = record { count = suc r.count; place = q ∙ ap turn r.place; on = λ k l. go k l (ltb k r.count) refl }
    where
      go : (k : ℕ) → k < suc r.count → (b : Bool) → ltb k r.count ≡ b → goes (turned turn k d) ≡ true
      go k l true w = r.on k (ltb-true k r.count w)
      go k l false w =
          let m : k ≡ r.count = omega (arith, ltb-false k r.count w) in
          ap (λ (j : ℕ). goes (turned turn j d)) m ∙ ap goes (sym r.place) ∙ g

  never-fewer : {d e f : D} (a : Stops turn goes d e) (b : Stops turn goes d f) → a.run.count < b.run.count → ⊥
  never-fewer a b l = false≢true (sym a.halts ∙ ap goes a.run.place ∙ b.run.on a.run.count l)

  -- from one place, turns stop at one place
  pub stops-one : {d e f : D} → Stops turn goes d e → Stops turn goes d f → e ≡ f
  stops-one {d} a b =
      let m : a.run.count ≡ b.run.count = same (never-fewer a b) (never-fewer b a) in
      a.run.place ∙ ap (λ (k : ℕ). turned turn k d) m ∙ sym b.run.place
    where
      same : {m n : ℕ} → (m < n → ⊥) → (n < m → ⊥) → m ≡ n
      same p q = omega arith

  -- and where it does not go on, there is no turn
  pub stops-here : {d e : D} → goes d ≡ false → Stops turn goes d e → e ≡ d
  stops-here {d} h s = stops-one s (record { run = runs_none d; halts = h })

  turned_same : {A : Type 0} (φ : D → A) → ((d : D) → goes d ≡ true → φ (turn d) ≡ φ d) → (d : D) (n : ℕ) → ((k : ℕ) → k < n → goes (turned turn k d) ≡ true)
      → φ (turned turn n d) ≡ φ d
  unfolding turned
  turned_same φ same d zero on = refl
  turned_same φ same d (suc n) on = same (turned turn n d) (on n (omega arith)) ∙ turned_same φ same d n (λ k l. on k (omega arith))

  -- what each turn leaves alone is left alone
  pub stops_same : {A : Type 0} (φ : D → A) → ((d : D) → goes d ≡ true → φ (turn d) ≡ φ d) → {d e : D} → Stops turn goes d e → φ e ≡ φ d
  stops_same φ same {d} s = ap φ s.run.place ∙ turned_same φ same d s.run.count s.run.on
