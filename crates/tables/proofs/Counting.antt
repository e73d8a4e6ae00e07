-- One pass over the waiting payments counts each member's queue.
use mathlib.Core.Path.{◌≡◌, refl}
use mathlib.Core.Bool.{Bool, true, false, cond}
use mathlib.Core.List.{List, ◌∷◌}
use Prim.Native.Nat.{ℕ, ◌+◌, ◌≤◌, ◌<◌}
use native.Mathlib.Omega.{arith}
use lib.Dec.{eqb}
use lib.ListN.{length}
use Rattle.std.specs.List.{count_by}
use Rattle.std.proofs.lemmas.List.Recursion.{is_count_by}
use Rattle.std.proofs.lemmas.List.Sums.{count_by-le-length}
use Rattle.rule.specs.Payment.{payer_of}
use Rattle.rule.specs.Table.{queue_of}
use Rattle.tables.specs.Sizes.{members}

-- a payer is one of 64
pub payer-few : (w : ℕ) → payer_of w < members
unfolding payer_of
payer-few w = omega arith

-- a queue is as long as its payer has payments,
pub queue-count : (i : ℕ) (l : List ℕ) → length (queue_of i l) ≡ count_by (λ w. eqb (payer_of w) i) l
queue-count i l = is_count_by (λ p. length (queue_of i p)) (λ w. eqb (payer_of w) i) refl (λ w p. step (eqb (payer_of w) i) w (queue_of i p)) l
  where
    step : (t : Bool) (w : ℕ) (q : List ℕ) → length (cond t (w ∷ q) q) ≡ cond t (1 + length q) (length q)
    step true w q = omega arith
    step false w q = refl

-- and no longer than the table
pub queue-short : (i : ℕ) (l : List ℕ) → length (queue_of i l) ≤ length l
queue-short i l = omega (arith, queue-count i l, count_by-le-length (λ w. eqb (payer_of w) i) l)

-- for `count_waiting`
pub ruleset counting = (payer-few, queue-count)
