-- Writing a row changes its own bytes alone, and reading is from a row's own bytes alone: what was written is read.
use mathlib.Core.Path.{◌≡◌, refl, ap, ap₂, ◌∙◌}
use mathlib.Core.List.{List, [], ◌∷◌}
use mathlib.Core.Logic.{◌⊎◌, inl, inr}
use Prim.Native.Nat.{ℕ, zero, suc, ◌+◌, ◌*◌, ◌^◌, ◌≤◌, ◌<◌}
use native.Mathlib.Nat.{suc-mul, zero-mul}
use native.Mathlib.Omega.{arith}
use lib.IntN.{ℤ, pos}
use lib.ListN.{length, get_or}
use mir.Syntax.{w64}
use mir.Val.{SFits, to_z, of_z}
use mir.Facts.{to_z-of_z, Fits-of_z}
use Rattle.words.proofs.Number.{length-put, put-outside, same_bytes, read-put, below}
use Rattle.words.specs.Le.{le_at, put_at}
use Rattle.words.specs.Row.{row_at, put_row, as_it_is}

module _ {A : Type 0} (f : ℕ → A) (w : ℕ) where
  -- A row that is read has as many values as were asked for.
  pub length-row : (n : ℕ) (s : List ℕ) (at : ℕ) → length (row_at f w n s at) ≡ n
  unfolding row_at
  length-row zero s at = refl
  length-row (suc n) s at = ap suc (length-row n s (at + w))

  -- Its value i is that of the number which stands i widths behind the first.
  pub get_or-row : (n : ℕ) (s : List ℕ) (at i : ℕ) (d : A) → i < n → get_or (row_at f w n s at) i d ≡ f (le_at w s (at + i * w))
  unfolding row_at
  get_or-row zero s at i d h = absurd (omega arith)
  get_or-row (suc n) s at zero d h = let e : at + 0 * w ≡ at = omega (arith, zero-mul w) in rw e
  get_or-row (suc n) s at (suc i) d h =
      let e : at + suc i * w ≡ at + w + i * w = omega (arith, suc-mul i w) in
      rw e (get_or-row n s (at + w) i d (omega arith))

  -- Where the bytes of a row are the same, so is the row.
  pub same_row : (n : ℕ) (s t : List ℕ) (at : ℕ) → ((k : ℕ) → at ≤ k → k < at + n * w → get_or s k 0 ≡ get_or t k 0) → row_at f w n s at ≡ row_at f w n t at
  unfolding row_at
  same_row zero s t at h = refl
  same_row (suc n) s t at h =
      let e : at + suc n * w ≡ at + w + n * w = omega (arith, suc-mul n w) in
      ap₂ ◌∷◌ (ap f (same_bytes w s t at (λ k p q. h k p (omega arith)))) (same_row n s t (at + w) (λ k p q. h k (omega arith) (omega arith)))

-- A row of unsigned numbers that is read has only such as w bytes hold.
pub row_below : (w n : ℕ) (s : List ℕ) (at i : ℕ) → ((k : ℕ) → get_or s k 0 < 256) → i < n → get_or (row_at as_it_is w n s at) i 0 < 256 ^ w
row_below w n s at i h l = rw (get_or-row as_it_is w n s at i 0 l) (below w s (at + i * w) h)

module _ {A : Type 0} (g : A → ℕ) (w : ℕ) where
  -- Writing keeps the length.
  pub length-put_row : (s : List ℕ) (at : ℕ) (xs : List A) → length (put_row g w s at xs) ≡ length s
  unfolding put_row
  length-put_row s at [] = refl
  length-put_row s at (x ∷ xs) = length-put_row (put_at w s at (g x)) (at + w) xs ∙ length-put w s at (g x)

  -- Each byte before and behind the row stays.
  pub put_row-outside : (s : List ℕ) (at : ℕ) (xs : List A) (k : ℕ) → (k < at) ⊎ (at + length xs * w ≤ k) → get_or (put_row g w s at xs) k 0 ≡ get_or s k 0
  unfolding put_row
  put_row-outside s at [] k h = refl
  put_row-outside s at (x ∷ xs) k (inl h) = put_row-outside (put_at w s at (g x)) (at + w) xs k (inl (omega arith)) ∙ put-outside w s at (g x) k (inl h)
  put_row-outside s at (x ∷ xs) k (inr h) =
      let e : at + suc (length xs) * w ≡ at + w + length xs * w = omega (arith, suc-mul (length xs) w) in
      put_row-outside (put_at w s at (g x)) (at + w) xs k (inr (omega arith)) ∙ put-outside w s at (g x) k (inr (omega arith))

  -- A row written elsewhere changes no number.
  pub read-put_row : (v : ℕ) (s : List ℕ) (at : ℕ) (xs : List A) (b : ℕ) → (b + v ≤ at) ⊎ (at + length xs * w ≤ b) → le_at v (put_row g w s at xs) b ≡ le_at v s b
  read-put_row v s at xs b (inl h) = same_bytes v _ s b (λ k p q. put_row-outside s at xs k (inl (omega arith)))
  read-put_row v s at xs b (inr h) = same_bytes v _ s b (λ k p q. put_row-outside s at xs k (inr (omega arith)))

-- A row written elsewhere changes no row.
pub row-put_row : {A B : Type 0} (f : ℕ → A) (v n : ℕ) (g : B → ℕ) (w : ℕ) (s : List ℕ) (at : ℕ) (xs : List B) (b : ℕ)
    → (b + n * v ≤ at) ⊎ (at + length xs * w ≤ b) → row_at f v n (put_row g w s at xs) b ≡ row_at f v n s b
row-put_row f v n g w s at xs b (inl h) = same_row f v n _ s b (λ k p q. put_row-outside g w s at xs k (inl (omega arith)))
row-put_row f v n g w s at xs b (inr h) = same_row f v n _ s b (λ k p q. put_row-outside g w s at xs k (inr (omega arith)))

module _ {A : Type 0} (f : ℕ → A) (g : A → ℕ) (w : ℕ) (d : A) where
  -- w bytes hold the number of each value of xs, and the number stands for the value.
  pub record Held (xs : List A) : Type 0 where
    pub fits : (i : ℕ) → i < length xs → g (get_or xs i d) < 256 ^ w
    pub back : (i : ℕ) → i < length xs → f (g (get_or xs i d)) ≡ get_or xs i d

  held-rest : {x : A} {xs : List A} → Held (x ∷ xs) → Held xs
  held-rest h = record { fits = λ i l. h.fits (suc i) (omega arith); back = λ i l. h.back (suc i) (omega arith) }

  -- A row that was written is read, where its bytes have room and its values are held.
  pub row_back : (n : ℕ) (s : List ℕ) (at : ℕ) (xs : List A) → n ≡ length xs → at + n * w ≤ length s → Held xs → row_at f w n (put_row g w s at xs) at ≡ xs
  unfolding row_at put_row
  row_back zero s at [] e room h = refl
  row_back zero s at (x ∷ xs) e room h = absurd (omega arith)
  row_back (suc n) s at [] e room h = absurd (omega arith)
  row_back (suc n) s at (x ∷ xs) e room h =
      let t = put_at w s at (g x) in
      let r : at + w + n * w ≤ length s = omega (arith, suc-mul n w) in
      let first = read-put_row g w w t (at + w) xs at (inl (omega arith)) ∙ read-put w s at (g x) (omega arith) (h.fits 0 (omega arith)) in
      ap₂ ◌∷◌ (ap f first ∙ h.back 0 (omega arith)) (row_back n t (at + w) xs (omega arith) (rw length-put r) (held-rest h))

-- So are unsigned numbers, each below 256 ^ w.
pub row-back-plain : (w n : ℕ) (s : List ℕ) (at : ℕ) (xs : List ℕ) → n ≡ length xs → at + n * w ≤ length s → ((i : ℕ) → i < length xs → get_or xs i 0 < 256 ^ w)
    → row_at as_it_is w n (put_row as_it_is w s at xs) at ≡ xs
row-back-plain w n s at xs e room h = row_back as_it_is as_it_is w 0 n s at xs e room (record { fits = h; back = λ i l. refl })

-- So are signed numbers, each of 64 bits.
pub row-back-signed : (n : ℕ) (s : List ℕ) (at : ℕ) (xs : List ℤ) → n ≡ length xs → at + n * 8 ≤ length s → ((i : ℕ) → i < length xs → SFits w64 (get_or xs i (pos 0)))
    → row_at (to_z w64) 8 n (put_row (of_z w64) 8 s at xs) at ≡ xs
row-back-signed n s at xs e room h =
    row_back (to_z w64) (of_z w64) 8 (pos 0) n s at xs e room (record { fits = λ i l. (Fits-of_z {w = w64} (h i l)).fits; back = λ i l. to_z-of_z {w = w64} (h i l) })
