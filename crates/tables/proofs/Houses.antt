-- What document 01's list gives of the house that the tables hold, in the rule's words.
use mathlib.Core.Path.{◌≡◌, refl, sym, ◌∙◌}
use mathlib.Core.Bool.{Bool, true, false, cond}
use mathlib.Core.List.{List, [], ◌∷◌}
use Prim.Native.Nat.{ℕ, zero, suc, ◌≤◌, ◌<◌}
use native.Mathlib.Decide.{dec_lt}
use native.Mathlib.Omega.{arith}
use lib.Dec.{eqb}
use lib.IntN.{pos}
use lib.ListN.{length, get_or}
use lib.Seq.{length-take-le, get_or-take}
use borrow.Author.Tests.{eqb-true, ne_eqb}
use Rattle.rule.specs.Ints.{up}
use Rattle.rule.specs.Kernel.{sum}
use Rattle.rule.specs.Payment.{payer_of}
use Rattle.rule.specs.Queue.{total}
use Rattle.rule.specs.House.{waits, Sound, Proper}
use Rattle.rule.specs.Table.{queue_of, Payers}
use Rattle.rule.proofs.Ints.{eq_of, nonneg-is}
use Rattle.rule.proofs.Sums.{sum-cong}
use Rattle.rule.proofs.Table.{by-payers}
use Rattle.tables.specs.Sizes.{members, places}
use Rattle.tables.specs.Layout.{Tables, members_in, waiting_in, words_in, house_in, line_of, waits_of}
use Rattle.tables.specs.Holds.{Payment, Holds}
use Rattle.tables.proofs.Counting.{queue-short}

-- ---- the queues of a table

-- what holds of each payment of a table holds of each in a queue, and the queue's are of its payer
pub queue-each : (P : ℕ → Type 0) (i : ℕ) (t : List ℕ) → ((k : ℕ) → k < length t → P (get_or t k 0))
    → (k : ℕ) → k < length (queue_of i t) → P (get_or (queue_of i t) k 0) × (payer_of (get_or (queue_of i t) k 0) ≡ i)
queue-each P i [] f = λ k h. absurd (omega arith)
queue-each P i (w ∷ ws) f = go (eqb (payer_of w) i) refl (queue-each P i ws (λ k h. f (suc k) (omega arith)))
  where
    go : (b : Bool) → eqb (payer_of w) i ≡ b → ((k : ℕ) → k < length (queue_of i ws) → P (get_or (queue_of i ws) k 0) × (payer_of (get_or (queue_of i ws) k 0) ≡ i))
        → (k : ℕ) → k < length (cond b (w ∷ queue_of i ws) (queue_of i ws))
        → P (get_or (cond b (w ∷ queue_of i ws) (queue_of i ws)) k 0) × (payer_of (get_or (cond b (w ∷ queue_of i ws) (queue_of i ws)) k 0) ≡ i)
    go true e ih zero h = (f 0 (omega arith), eqb-true (payer_of w) i e)
    go true e ih (suc k) h = ih k (omega arith)
    go false e ih k h = ih k h

queue-none : (n i : ℕ) (t : List ℕ) → n ≤ i → Payers n t → queue_of i t ≡ []
queue-none n i [] l h = refl
queue-none n i (w ∷ ws) l h =
    let q = h 0 (omega arith) in
    rw (ne_eqb (payer_of w) i (λ e. omega arith)) (queue-none n i ws l (λ k m. h (suc k) (omega arith)))

total-one : (l : List ℕ) → total (λ w. 1) l ≡ length l
total-one [] = refl
total-one (w ∷ ws) = omega (arith, total-one ws)

module _ {T : Tables} (h : Holds T) where
  -- a line is never below zero
  pub line-is : (i : ℕ) → i < members → line_of T.accounts i ≡ pos ((house_in T).line i)
  line-is i q = elim (dec_lt i (members_in T)) [
    | yes l ↦ eq_of (line_of T.accounts i) (pos (up (line_of T.accounts i))) (omega (arith, nonneg-is (line_of T.accounts i) (h.accounts.holders i l).line))
    | no l ↦ let e = h.accounts.no_line i (omega arith) q in rw e
  ]

  -- each member is covered
  pub holds-sound : Sound (members_in T) (house_in T)
  holds-sound = record { covers = λ i l. rw (sym (line-is i (omega (arith, h.counters.few)))) (h.accounts.holders i l).cover }

  -- ---- payments

  waiting-long : length (words_in T) ≡ waiting_in T
  waiting-long = length-take-le (waiting_in T) T.pays (omega (arith, h.counters.room, h.places.deep))

  -- each waiting payment is one
  pub holds-payment : (k : ℕ) → k < length (words_in T) → Payment (members_in T) (get_or (words_in T) k 0)
  holds-payment k l = let q : k < waiting_in T = omega (arith, waiting-long) in rw (get_or-take (waiting_in T) T.pays k 0 q) (h.places.words k q)

  -- each payer is a member
  pub holds-payers : Payers (members_in T) (words_in T)
  holds-payers k l = (holds-payment k l).payer

  -- each queue holds payments to other members
  pub holds-proper : Proper (members_in T) (house_in T)
  holds-proper = record {
    outgoing = λ i l. record {
      to = λ k q. (queue-each (Payment (members_in T)) i (words_in T) holds-payment k q).0.payee;
      away = λ k q e. let f = queue-each (Payment (members_in T)) i (words_in T) holds-payment k q in f.0.other (f.1 ∙ sym e);
    };
  }

  -- ---- counts

  -- who is no member has no queue
  pub no-queue : (i : ℕ) → members_in T ≤ i → queue_of i (words_in T) ≡ []
  no-queue i l = queue-none (members_in T) i (words_in T) l holds-payers

  -- of each member wait those that were accepted and not settled
  pub waits-is : (i : ℕ) → i < members → waits (house_in T) i ≡ waits_of T.counters i
  waits-is i q = omega (arith, h.numbers.each i q)

  -- all queues together are what waits
  pub waiting-sum : sum (members_in T) (waits (house_in T)) ≡ waiting_in T
  waiting-sum =
      sum-cong (members_in T) (waits (house_in T)) (λ j. total (λ w. 1) (queue_of j (words_in T))) (λ j l. sym (total-one (queue_of j (words_in T))))
      ∙ by-payers (members_in T) (λ w. 1) (words_in T) holds-payers
      ∙ total-one (words_in T)
      ∙ waiting-long

  -- and none of them is longer than the table
  pub few-wait : (i : ℕ) → waits (house_in T) i ≤ places
  few-wait i = omega (arith, queue-short i (words_in T), waiting-long, h.counters.room)
