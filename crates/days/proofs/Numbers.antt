-- The numbers of waiting payments are the payer's last ones, without a gap: from what a state says of settled, waiting and accepted.
use mathlib.Core.Path.{◌≡◌, ◌∙◌}
use mathlib.Core.List.{List, [], ◌∷◌}
use Prim.Native.Nat.{ℕ, zero, suc, ◌+◌, ◌-◌, ◌<◌}
use native.Mathlib.Omega.{arith}
use lib.ListN.{length, get_or}
use Rattle.rule.specs.House.{waits}
use Rattle.rule.specs.Table.{queue_of}
use Rattle.tables.specs.Sizes.{members}
use Rattle.tables.specs.Layout.{Tables, words_in, house_in, last_of, settled_of}
use Rattle.tables.specs.Holds.{Holds}
use Rattle.days.specs.Days.{Waiting, numbered, queue_in}

numbered-at : (n : ℕ) (ws : List ℕ) (k : ℕ) (d : Waiting) → k < length ws → (get_or (numbered n ws) k d).number ≡ n + k
numbered-at n [] k d h = absurd (omega arith)
numbered-at n (w ∷ ws) zero d h = omega arith
numbered-at n (w ∷ ws) (suc k) d h = numbered-at (suc n) ws k d (omega arith) ∙ omega arith

-- a waiting payment's number is the payer's last number less how many wait behind it
pub queue-number : {T : Tables} → Holds T → (i : ℕ) → i < members → (k : ℕ) (d : Waiting) → k < waits (house_in T) i
    → (get_or (queue_in T i) k d).number + (waits (house_in T) i - suc k) ≡ last_of T.counters i
queue-number {T} h i q k d l =
    omega (arith, h.numbers.each i q, numbered-at (suc (settled_of T.counters i)) (queue_of i (words_in T)) k d l)
