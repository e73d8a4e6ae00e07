-- A line's fields, parted by one tab (byte 9). A text is the list of its bytes.
use Rattle.std.specs.Prelude.{ℕ, suc, Bool, cond, List, [], ◌∷◌, leb, eqb, length, drop}
use Rattle.std.specs.Str.{bytes_eq}

-- byte b before the first field
abbrev pub onto : ℕ → List (List ℕ) → List (List ℕ)
onto b [] = (b ∷ []) ∷ []
onto b (f ∷ fs) = (b ∷ f) ∷ fs

-- the fields of a line; the empty line has one, which is empty
unfoldable pub fields_of : List ℕ → List (List ℕ)
fields_of [] = [] ∷ []
fields_of (b ∷ s) = cond (eqb b 9) ([] ∷ fields_of s) (onto b (fields_of s))

-- how many bytes stand before the first tab
unfoldable pub up_to : List ℕ → ℕ
up_to [] = 0
up_to (b ∷ s) = cond (eqb b 9) 0 (suc (up_to s))

-- the fields from place at on; none where the line has ended before it
abbrev pub fields_from : ℕ → List ℕ → List (List ℕ)
fields_from at s = cond (leb at (length s)) (fields_of (drop at s)) []

-- whether two texts are the same
abbrev pub same : List ℕ → List ℕ → Bool
same s t = bytes_eq s t
