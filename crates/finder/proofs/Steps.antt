-- A step, look by look: whoever is short loses a payment, and whatever house stood so before still does.
use mathlib.Core.Path.{◌≡◌}
use mathlib.Core.Bool.{Bool, true, false}
use mathlib.Core.List.{List}
use Prim.Native.Nat.{ℕ, ◌≤◌, ◌<◌}
use native.Mathlib.Omega.{arith}
use lib.IntN.{ℤ}
use Rattle.tables.specs.Sizes.{members}
use Rattle.finder.specs.Tops.{height}
use Rattle.finder.specs.Finder.{InRange, Keeps, Short, TakenOff}
use Rattle.finder.proofs.Off.{stood-off, height-off, ranges-off}

-- the step is still at its first member, nobody is due, and nothing changed; or a payment was taken off
abbrev pub Way : Bool → ℕ → ℕ → ℕ → List ℤ → List ℤ → List ℕ → List ℕ → Type 0
Way false i m due xs ys ts us = (m ≡ i) × (due ≡ 0) × (ys ≡ xs) × (us ≡ ts)
Way true i m due xs ys ts us = height us < height ts

-- the step from member i has come to m
pub record Stepping (any : Bool) (n used i m due : ℕ) (pays : List ℕ) (lines xs ys : List ℤ) (ts us : List ℕ) : Type 0 where
  pub ranges : InRange used pays ys lines us
  pub keeps : Keeps n used pays lines xs ts ys us
  pub low : height us ≤ height ts
  pub way : Way any i m due xs ys ts us

module _ {any : Bool} {n used i m due : ℕ} {pays : List ℕ} {lines xs ys : List ℤ} {ts us : List ℕ}
    (g : Stepping any n used i m due pays lines xs ys ts us) where
  -- a short member loses its last payment
  pub step-off : {p d : ℕ} {zs : List ℤ} {vs : List ℕ} → m < members → m < n → Short ys lines m ≡ true → TakenOff p pays m ys zs us vs
      → Stepping true n used i m d pays lines xs zs ts vs
  step-off {vs} inside h short t =
      let falls : height vs < height us = height-off g.ranges inside t in
      record {
        ranges = ranges-off g.ranges inside t;
        keeps = λ H st. stood-off g.ranges inside t (g.keeps H st) h short;
        low = omega (arith, g.low);
        way = omega (arith, g.low);
      }
