-- A loop that stores f 0, f 1 and so on into the first places of a list fills them; and so does a list in the place of those.
use mathlib.Core.Path.{◌≡◌, refl, sym, ap, ◌∙◌}
use mathlib.Core.List.{List, ◌++◌}
use Prim.Native.Nat.{ℕ, ◌+◌, ◌≤◌, ◌<◌}
use native.Mathlib.Numerals.{add-one}
use native.Mathlib.Omega.{arith}
use lib.ListN.{length, get_or, set, drop, length-set}
use lib.Seq.{ext_get_or}
use Rattle.rule.specs.Lists.{listing, fill}
use Rattle.rule.proofs.Lists.{length-listing, get_or-listing, fill_none, fill-turn, fill-past}

-- the loop's invariant: the first i places of the n hold f, and the rest is as it was
pub record Filling {A : Type 0} (n : ℕ) (f : ℕ → A) (l₀ l : List A) (i : ℕ) : Type 0 where
  pub within : i ≤ n
  pub fits : n ≤ length l₀
  pub long : length l ≡ length l₀
  pub done : l ≡ fill i f l₀

-- the loop starts,
pub filling-start : {A : Type 0} (n : ℕ) (f : ℕ → A) (l : List A) → n ≤ length l → Filling n f l l 0
filling-start n f l h = record { within = omega arith; fits = h; long = refl; done = sym (fill_none f l) }

module _ {A : Type 0} {n : ℕ} {f : ℕ → A} {l₀ l : List A} {i : ℕ} (g : Filling n f l₀ l i) where
  -- finds what stood at the next place,
  pub filling-here : (d : A) → get_or l i d ≡ get_or l₀ i d
  filling-here d = rw g.done (fill-past f l₀ i i d (omega arith))

  -- and stores the next
  pub filling-turn : i < n → (v : A) → v ≡ f i → Filling n f l₀ (set l i v) (i + 1)
  filling-turn h v e = record {
    within = omega arith;
    fits = g.fits;
    long = simp length-set g.long;
    done = rw (e, g.done, add-one) (fill-turn f l₀ i (omega (arith, g.fits)));
  }

-- xs in the place of the first entries of a list fills them
pub front-fill : {A : Type 0} (d : A) (n : ℕ) (f : ℕ → A) (xs l : List A) → length xs ≡ n → ((k : ℕ) → k < n → get_or xs k d ≡ f k) → xs ++ drop n l ≡ fill n f l
unfolding fill
front-fill d n f xs l h e = ap (λ r. r ++ drop n l) (ext_get_or d xs (listing n f) (h ∙ sym (length-listing n f))
    (λ k q. let r : k < n = omega arith in e k r ∙ sym (get_or-listing n f k d r)))
