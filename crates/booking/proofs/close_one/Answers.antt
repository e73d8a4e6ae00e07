-- `booking::close_one` meets its contract: the first place, turned to the end, is 0.
use mathlib.Core.Path.{◌≡◌}
use mathlib.Core.List.{List, [], ◌∷◌, ◌++◌}
use Prim.Native.Nat.{ℕ, ◌-◌, ◌≤◌}
use native.Mathlib.Omega.{arith}
use lib.ListN.{length, set, take, drop}
use lib.Seq.{set_at}
use Rattle.booking.proofs.close_one.Goals as goal

turned : (s r : List ℕ) → 1 ≤ length s → r ≡ drop 1 s ++ take 1 s → set r (length s - 1) 0 ≡ drop 1 s ++ (0 ∷ [])
turned [] r h e = absurd (omega arith)
turned (x ∷ xs) r h e = rw e (set_at xs x [] 0 (length (x ∷ xs) - 1) (omega arith))

pub returns : goal.returns
returns c = turned c.args.s.now c.rotate_left.new.self c.requires c.rotate_left.ensures.after
