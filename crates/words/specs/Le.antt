-- A number as bytes, the lowest byte first.
use Rattle.std.specs.Prelude.{ℕ, zero, suc, ◌+◌, ◌*◌, ◌/◌, ◌%◌, List, get_or, set}

-- The number that the w bytes of s from the place at on are.
unfoldable pub le_at : ℕ → List ℕ → ℕ → ℕ
le_at zero s at = 0
le_at (suc w) s at = get_or s at 0 + 256 * le_at w s (at + 1)

-- s, with the w low bytes of the number x from the place at on.
unfoldable pub put_at : ℕ → List ℕ → ℕ → ℕ → List ℕ
put_at zero s at x = s
put_at (suc w) s at x = put_at w (set s at (x % 256)) (at + 1) (x / 256)
