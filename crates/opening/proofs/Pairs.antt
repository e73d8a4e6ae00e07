-- What is said of each pair of two lists is said of each member's balance and line.
use mathlib.Core.Path.{◌≡◌, refl, sym, subst, ◌∙◌}
use mathlib.Core.Bool.{Bool, true, false}
use mathlib.Core.List.{List}
use Prim.Native.Nat.{ℕ, ◌<◌}
use native.Mathlib.Omega.{arith}
use lib.IntN.{ℤ, pos}
use lib.ListN.{length, get_or}
use Rattle.std.specs.Bool.{MatchBool}
use Rattle.std.specs.List.{zip, AllWithin, HoldsAt}
use Rattle.std.proofs.lemmas.Slice.Zip.{get_or-zip, length-zip}
use Rattle.tables.specs.State.{every, holder_ok}
use Rattle.tables.proofs.Every.{every_of, every-at}
use Rattle.opening.specs.Open.{opens_at}

abbrev pub Said : Bool → ℤ × ℤ → Type 0
Said t p = holder_ok p.0 p.1 ≡ t

module _ (b l : List ℤ) (same : length l ≡ length b) where
  said : (t : Bool) (i : ℕ) → i < length b → Said t (get_or (zip b l) i (pos 0, pos 0)) → opens_at b l i ≡ t
  said t i h s = subst (Said t) (get_or-zip b l i (pos 0, pos 0) h (omega arith)) s

  pub pairs-every : (r : Bool) → MatchBool r (AllWithin (Said true) (zip b l) 0 (length (zip b l))) ((k : ℕ) × (k < length (zip b l)) × HoldsAt (Said false) (zip b l) k)
      → r ≡ every (opens_at b l) (length b)
  pairs-every true m = sym (every_of (opens_at b l) (length b) (λ k h. said true k h (m k (pos 0, pos 0) (omega arith) (omega (arith, length-zip b l)))))
  pairs-every false (k, h, f) = go (every (opens_at b l) (length b)) refl
    where
      at : k < length b
      at = omega (arith, length-zip b l)

      go : (t : Bool) → every (opens_at b l) (length b) ≡ t → false ≡ t
      go true e = sym (said false k at (f (pos 0, pos 0))) ∙ every-at (opens_at b l) (length b) k e at
      go false e = refl
