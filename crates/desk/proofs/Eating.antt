-- The next line of a chunk, as the code eats it.
use mathlib.Core.Path.{◌≡◌}
use mathlib.Core.List.{List}
use Prim.Native.Nat.{ℕ, ◌+◌, ◌<◌}
use native.Mathlib.Omega.{arith}
use lib.ListN.{length, drop, length-drop}
use Rattle.dayfile.specs.Chunks.{Held, eat_of}
use Rattle.dayfile.proofs.Chunks.{eats}

-- a byte is eaten, where one is left
pub eat-more : (chunk : List ℕ) (from : ℕ) (h : Held) (at : ℕ) → at ≡ from + (eat_of (drop from chunk) h).used → from < length chunk → from < at
eat-more chunk from h at q l = let n : 0 < length (drop from chunk) = omega (arith, length-drop from chunk) in omega (arith, eats (drop from chunk) h n)
