-- The payments of a member below its top are the head of its queue, and the last of them stands just below a top that is behind one.
use mathlib.Core.Path.{◌≡◌, refl, ap, ◌∙◌}
use mathlib.Core.Logic.{◌≢◌}
use mathlib.Core.Bool.{Bool, true, false, cond}
use mathlib.Core.List.{List, [], ◌∷◌, ◌++◌, append-nil}
use Prim.Native.Nat.{ℕ, zero, suc, ◌+◌, ◌-◌, ◌≤◌, ◌<◌}
use native.Mathlib.Omega.{arith}
use lib.Dec.{eqb}
use lib.ListN.{length, get_or, take, drop, length-append}
use lib.Seq.{take-suc, take-add}
use Rattle.rule.specs.Payment.{payer_of, payee_of}
use Rattle.rule.specs.Table.{queue_of}
use Rattle.rule.proofs.Sums.{eqb_same, eqb-other}
use Rattle.tables.specs.Sizes.{members}
use Rattle.finder.specs.Tops.{Behind, LastAt}

-- payer and payee are among 64
pub payer-under : (w : ℕ) → payer_of w < members
unfolding payer_of
payer-under w = omega arith

pub payee-under : (w : ℕ) → payee_of w < members
unfolding payee_of
payee-under w = omega arith

pub ruleset under = (payer-under, payee-under)

-- ---- queues

pub queue-append : (i : ℕ) (xs ys : List ℕ) → queue_of i (xs ++ ys) ≡ queue_of i xs ++ queue_of i ys
queue-append i [] ys = refl
queue-append i (w ∷ ws) ys = go (eqb (payer_of w) i) (queue-append i ws ys)
  where
    go : (b : Bool) → queue_of i (ws ++ ys) ≡ queue_of i ws ++ queue_of i ys
        → cond b (w ∷ queue_of i (ws ++ ys)) (queue_of i (ws ++ ys)) ≡ cond b (w ∷ queue_of i ws) (queue_of i ws) ++ queue_of i ys
    go true ih = rw ih
    go false ih = ih

-- one place more holds a payment of the member, or of another
module _ (pays : List ℕ) (i k : ℕ) (h : k < length pays) where
  pub queue-own : payer_of (get_or pays k 0) ≡ i → queue_of i (take (suc k) pays) ≡ queue_of i (take k pays) ++ (get_or pays k 0 ∷ [])
  queue-own e = rw (take-suc pays k 0 h, queue-append, eqb_same e)

  pub queue-other : payer_of (get_or pays k 0) ≢ i → queue_of i (take (suc k) pays) ≡ queue_of i (take k pays)
  queue-other e = rw (take-suc pays k 0 h, queue-append, eqb-other e) (append-nil (queue_of i (take k pays)))

queue-head : (pays : List ℕ) (i t u : ℕ) → t ≤ u → queue_of i (take u pays) ≡ queue_of i (take t pays) ++ queue_of i (take (u - t) (drop t pays))
queue-head pays i t u h = let e : u ≡ t + (u - t) = omega arith in rw (← queue-append, ← take-add) (ap (λ (m : ℕ). queue_of i (take m pays)) e)

-- a lower top takes no more in
pub queue-grows : (pays : List ℕ) (u i t : ℕ) → t ≤ u → length (queue_of i (take t pays)) ≤ length (queue_of i (take u pays))
queue-grows pays u i t h = rw (queue-head pays i t u h, length-append) (omega arith)

-- ---- the last payment below a top

module _ {pays : List ℕ} {top i place : ℕ} (l : LastAt pays top i place) where
  -- without it one fewer is in,
  pub one_less : length (queue_of i (take top pays)) ≡ suc (length (queue_of i (take place pays)))
  one_less = rw (l.last, length-append) (omega arith)

  -- and in the queue it stands behind those
  pub last-stands : (used : ℕ) → top ≤ used → get_or (queue_of i (take used pays)) (length (queue_of i (take place pays))) 0 ≡ get_or pays place 0
  last-stands used h = rw (queue-head pays i top used h, l.last)
      (go (queue_of i (take place pays)) (get_or pays place 0) (queue_of i (take (used - top) (drop top pays))))
    where
      go : (xs : List ℕ) (w : ℕ) (ys : List ℕ) → get_or ((xs ++ (w ∷ [])) ++ ys) (length xs) 0 ≡ w
      go [] w ys = refl
      go (x ∷ xs) w ys = go xs w ys

-- a top just behind a payment of the member has that one below it
pub last-behind : {pays : List ℕ} {i top : ℕ} → 0 < top → top ≤ length pays → Behind pays i top → LastAt pays top i (top - 1)
last-behind {pays} {i} {top} some fits own =
    let next : top ≡ suc (top - 1) = omega arith in
    record {
      under = omega arith;
      payer = own some;
      last = ap (λ (m : ℕ). queue_of i (take m pays)) next ∙ queue-own pays i (top - 1) (omega arith) (own some);
    }

-- a member with a payment in has its top above 0
pub top_above : (pays : List ℕ) (i top : ℕ) → 0 < length (queue_of i (take top pays)) → 0 < top
top_above pays i zero h = absurd (omega arith)
top_above pays i (suc t) h = omega arith
