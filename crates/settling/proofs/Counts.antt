-- A list of counts for the members, widened with zeros behind it, gives the same counts; and the test of such a list.
use mathlib.Core.Path.{◌≡◌, refl, sym, ap, ◌∙◌}
use mathlib.Core.Bool.{Bool, true, false}
use mathlib.Core.List.{List, ◌++◌}
use Prim.Native.Nat.{ℕ, ◌+◌, ◌-◌, ◌≤◌, ◌<◌}
use native.Mathlib.Decide.{dec_lt}
use native.Mathlib.Omega.{arith}
use borrow.Author.Tests.{eq-eqb, le-leb, leb-true}
use lib.Dec.{leb}
use lib.ListN.{length, get_or, drop, replicate, length-replicate, get_or-replicate, get_or-eq_default}
use lib.Seq.{get_or-drop}
use Rattle.std.proofs.lemmas.Bool.{false_from_ne_true}
use Rattle.std.proofs.lemmas.List.{get_or_append_left, get_or-append_right}
use Rattle.std.proofs.lemmas.List.FromFn.{length-enumerate_from, get_or-enumerate_from}
use Rattle.std.specs.Bool.{MatchBool}
use Rattle.std.specs.List.{enumerate_from, AllWithin, HoldsAt}
use Rattle.rule.specs.Kernel.{none}
use Rattle.tables.specs.Layout.{count_of, waits_of}
use Rattle.tables.specs.State.{every}
use Rattle.tables.proofs.Every.{every-at, every_of}
use Rattle.booking.specs.Booking.{listed}
use Rattle.settling.specs.Group.{counts_fit}

-- no counts
pub listed-zeros : (n : ℕ) → listed (replicate n 0) ≡ none
listed-zeros n = λ t j. at j t
  where
    at : (j : ℕ) → ◌≡◌ {A = ℕ} (get_or (replicate n 0) j 0) 0
    at j = elim (dec_lt j n) [
      | yes q ↦ get_or-replicate {A = ℕ} n j 0 0 q
      | no q ↦ get_or-eq_default (replicate n 0) 0 (omega (arith, length-replicate {A = ℕ} n 0))
    ]

-- counts k with what is left of n zeros behind them
pub listed-widened : (k : List ℕ) (n : ℕ) → listed (k ++ drop (length k) (replicate n 0)) ≡ listed k
listed-widened k n = λ t j. at j t
  where
    rest : List ℕ
    rest = drop (length k) (replicate n 0)

    at : (j : ℕ) → get_or (k ++ rest) j 0 ≡ get_or k j 0
    at j = elim (dec_lt j (length k)) [
      | yes q ↦ get_or_append_left k rest 0 j q
      | no q ↦ get_or-append_right k rest (length k) j 0 refl (omega arith)
          ∙ get_or-drop (length k) (replicate n 0) (j - length k) 0
          ∙ ap (λ f. f (length k + (j - length k))) (listed-zeros n)
          ∙ sym (get_or-eq_default k 0 (omega arith))
    ]

-- ---- the test of a list of counts

-- of member p.0, by the counters c, not more are counted than wait,
abbrev pub Within : List ℕ → ℕ × ℕ → Type 0
Within c p = p.1 ≤ waits_of c p.0

-- or more
abbrev pub Above : List ℕ → ℕ × ℕ → Type 0
Above c p = waits_of c p.0 < p.1

-- a pass over the places of k and their counts looks at each member's
pair_at : (k : List ℕ) (i : ℕ) → i < length k → get_or (enumerate_from 0 k) i (0, 0) ≡ (i, listed k i)
pair_at k i q = let z : 0 + i ≡ i = omega arith in get_or-enumerate_from 0 k i (0, 0) q ∙ ap (λ (m : ℕ). (m, listed k i)) z

-- so that one that ends at the first count above what waits tests a list of the right length
pub fit_is : (c k : List ℕ) (b : Bool) → length k ≡ count_of c → let ps = enumerate_from 0 k in
    MatchBool b (AllWithin (Within c) ps 0 (length ps)) ((i : ℕ) × (i < length ps) × HoldsAt (Above c) ps i) → b ≡ counts_fit c k
fit_is c k true e a = rw (eq-eqb (length k) (count_of c) e) (sym (every_of (λ i. leb (listed k i) (waits_of c i)) (count_of c) (λ i q.
    let l : i < length (enumerate_from 0 k) = omega (arith, length-enumerate_from 0 k) in
    le-leb (listed k i) (waits_of c i) (rw (pair_at k i (omega arith)) at (a i (0, 0) (omega arith) l)))))
fit_is c k false e (i, q, a) =
    let l : i < length k = omega (arith, length-enumerate_from 0 k) in
    let above : waits_of c i < listed k i = rw (pair_at k i l) at (a (0, 0)) in
    let f = λ (j : ℕ). leb (listed k j) (waits_of c j) in
    rw (eq-eqb (length k) (count_of c) e) (sym (false_from_ne_true (every f (count_of c)) (λ t.
    let b = leb-true (listed k i) (waits_of c i) (every-at f (count_of c) i t (omega arith)) in omega arith)))
