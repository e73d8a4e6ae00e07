-- What one payment less in a set does to each position.
use mathlib.Core.Path.{◌≡◌, refl, sym}
use mathlib.Core.Bool.{cond}
use Prim.Native.Nat.{ℕ, suc, ◌+◌, ◌<◌}
use native.Mathlib.Decide.{ℕ_discrete}
use native.Mathlib.Omega.{arith}
use lib.Dec.{eqb}
use lib.IntN.{pos, ◌+ℤ◌, ◌-ℤ◌}
use lib.ListN.{get_or}
use Rattle.rule.specs.Kernel.{Counts, put}
use Rattle.rule.specs.Payment.{amount_of, amount_to}
use Rattle.rule.specs.Queue.{worth}
use Rattle.rule.specs.House.{House, waits, sent, received, position}
use Rattle.rule.proofs.Ints.{plus, minus, eq_of}
use Rattle.rule.proofs.Sums.{sum_one, eqb_same, eqb-other}
use Rattle.rule.proofs.Find.{put-at, put_other}
use Rattle.rule.proofs.Steps.{worth-suc}
use Rattle.rule.proofs.Cover.{position-is}

-- the payment at place k of queue j, and the set with and without it
module _ (n : ℕ) (H : House) (z : Counts) (j k : ℕ) (here : z j ≡ suc k) (waiting : k < waits H j) where
  sent-off : (i : ℕ) → sent H z i ≡ sent H (put z j k) i + cond (eqb j i) (amount_of (get_or (H.queue j) k 0)) 0
  unfolding sent
  sent-off i = elim (ℕ_discrete i j) [
    | yes e ↦ rw (e, eqb_same {i = j} refl, put-at, here) (worth-suc amount_of (H.queue j) k waiting)
    | no e ↦ rw (put_other z j k i e, eqb-other {i = j} {j = i} (λ q. e (sym q))) (omega arith)
  ]

  received-off : (i : ℕ) → j < n → received n H z i ≡ received n H (put z j k) i + amount_to i (get_or (H.queue j) k 0)
  unfolding received
  received-off i h = sum_one n (λ m. worth (amount_to i) (H.queue m) (z m)) (λ m. worth (amount_to i) (H.queue m) (put z j k m)) j
      (amount_to i (get_or (H.queue j) k 0)) h
      (rw (here, put-at) (worth-suc (amount_to i) (H.queue j) k waiting))
      (λ m l ne. rw (put_other z j k m ne))

  -- the payee no longer has it, and the payer has it back
  pub position-off : (i : ℕ) → j < n → position n H (put z j k) i
      ≡ position n H z i -ℤ pos (amount_to i (get_or (H.queue j) k 0)) +ℤ pos (cond (eqb j i) (amount_of (get_or (H.queue j) k 0)) 0)
  position-off i h =
      let x = position n H z i in
      let a : ℕ = cond (eqb j i) (amount_of (get_or (H.queue j) k 0)) 0 in
      let b : ℕ = amount_to i (get_or (H.queue j) k 0) in
      eq_of (position n H (put z j k) i) (x -ℤ pos b +ℤ pos a)
      (omega (arith, position-is n H z i, position-is n H (put z j k) i, sent-off i, received-off i h, minus x (pos b), plus (x -ℤ pos b) (pos a)))
