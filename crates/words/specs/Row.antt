-- A row of numbers as bytes, one behind the other, each of the same width.
use Rattle.std.specs.Prelude.{ℕ, zero, suc, ◌+◌, List, [], ◌∷◌}
use Rattle.words.specs.Le.{le_at, put_at}

module _ {A : Type 0} where
  -- The n values that stand in s from the place at on, w bytes each: f says which value a number of w bytes stands for.
  unfoldable pub row_at : (ℕ → A) → ℕ → ℕ → List ℕ → ℕ → List A
  row_at f w zero s at = []
  row_at f w (suc n) s at = f (le_at w s at) ∷ row_at f w n s (at + w)

  -- s, with the values xs from the place at on, w bytes each: g says which number stands for a value.
  unfoldable pub put_row : (A → ℕ) → ℕ → List ℕ → ℕ → List A → List ℕ
  put_row g w s at [] = s
  put_row g w s at (x ∷ xs) = put_row g w (put_at w s at (g x)) (at + w) xs

-- An unsigned number stands for itself.
abbrev pub as_it_is : ℕ → ℕ
as_it_is n = n
