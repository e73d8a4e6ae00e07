-- What stays is some of what waited, as many as were not counted; and closed up in the places, with 0 behind, it fills them.
use mathlib.Core.Path.{◌≡◌, refl, sym, ap, ◌∙◌}
use mathlib.Core.List.{List, [], ◌∷◌, ◌++◌, append_assoc}
use Prim.Native.Nat.{ℕ, zero, suc, ◌+◌, ◌-◌, ◌≤◌, ◌<◌}
use native.Mathlib.Decide.{dec_lt}
use native.Mathlib.Omega.{arith}
use lib.ListN.{length, get_or, drop, replicate, length-append, length-drop, length-replicate, get_or-replicate, get_or-append, get_or-eq_default}
use lib.Seq.{get_or-append-add, get_or-drop}
use Rattle.rule.specs.Lists.{fill}
use Rattle.rule.specs.Kernel.{Counts, sum, put, Under}
use Rattle.rule.specs.Payment.{payer_of}
use Rattle.rule.specs.Queue.{total}
use Rattle.rule.specs.Table.{queue_of, staying, Payers}
use Rattle.rule.proofs.Lists.{is-fill}
use Rattle.rule.proofs.Sums.{sum-cong, sum-add}
use Rattle.rule.proofs.Table.{queue-staying, by-payers}
use Rattle.booking.specs.Steps.{closed_up}

-- ---- what stays

-- what holds of each payment of a table holds of each that stays,
pub staying-each : (P : ℕ → Type 0) (t : List ℕ) (z : Counts) → ((k : ℕ) → k < length t → P (get_or t k 0)) → (k : ℕ) → k < length (staying z t)
    → P (get_or (staying z t) k 0)
staying-each P [] z f = f
staying-each P (w ∷ ws) z f = go (z (payer_of w)) (λ y. staying-each P ws y (λ k h. f (suc k) (omega arith)))
  where
    go : (k : ℕ) → ((y : Counts) (k : ℕ) → k < length (staying y ws) → P (get_or (staying y ws) k 0))
        → (j : ℕ) → j < length {A = ℕ} (elim k [ zero ↦ w ∷ staying z ws | suc k ↦ staying (put z (payer_of w) k) ws ])
        → P (get_or {A = ℕ} (elim k [ zero ↦ w ∷ staying z ws | suc k ↦ staying (put z (payer_of w) k) ws ]) j 0)
    go zero ih zero h = f 0 (omega arith)
    go zero ih (suc j) h = ih z j (omega arith)
    go (suc k) ih j h = ih (put z (payer_of w) k) j h

-- no more stay than were there,
pub staying-short : (t : List ℕ) (z : Counts) → length (staying z t) ≤ length t
staying-short [] z = omega arith
staying-short (w ∷ ws) z = go (z (payer_of w)) (staying-short ws)
  where
    go : (k : ℕ) → ((y : Counts) → length (staying y ws) ≤ length ws)
        → length {A = ℕ} (elim k [ zero ↦ w ∷ staying z ws | suc k ↦ staying (put z (payer_of w) k) ws ]) ≤ suc (length ws)
    go zero ih = omega (arith, ih z)
    go (suc k) ih = omega (arith, ih (put z (payer_of w) k))

ones : (l : List ℕ) → total (λ w. 1) l ≡ length l
ones [] = refl
ones (w ∷ ws) = omega (arith, ones ws)

lengths : (n : ℕ) (t : List ℕ) → Payers n t → sum n (λ j. length (queue_of j t)) ≡ length t
lengths n t h =
    sum-cong n (λ j. length (queue_of j t)) (λ j. total (λ w. 1) (queue_of j t)) (λ j l. sym (ones (queue_of j t)))
    ∙ by-payers n (λ w. 1) t h
    ∙ ones t

-- and what stays with what was counted is all
pub staying-length : (n : ℕ) (t : List ℕ) (z : Counts) → Payers n t → Under n z (λ i. length (queue_of i t)) → length (staying z t) + sum n z ≡ length t
staying-length n t z h u =
    ap (λ k. k + sum n z) (sym (lengths n (staying z t) (staying-each (λ w. payer_of w < n) t z h)))
    ∙ sym (sum-add n (λ j. length (queue_of j (staying z t))) z)
    ∙ sum-cong n (λ j. length (queue_of j (staying z t)) + z j) (λ j. length (queue_of j t)) (λ j l. rw (queue-staying j t z, length-drop) (omega (arith, u j l)))
    ∙ lengths n t h

-- ---- closed up

module _ (n : ℕ) (ws p : List ℕ) (some : length ws ≤ n) (deep : n ≤ length p) where
  abbrev behind : List ℕ
  behind = replicate (n - length ws) 0 ++ drop n p

  past : (k : ℕ) → length ws ≤ k → get_or (ws ++ behind) k 0 ≡ get_or behind (k - length ws) 0
  past k h =
      let e : k ≡ length ws + (k - length ws) = omega arith in
      ap (λ j. get_or (ws ++ behind) j 0) e ∙ get_or-append-add ws behind (k - length ws) 0

  cleared : (k : ℕ) → length ws ≤ k → k < n → get_or (ws ++ behind) k 0 ≡ 0
  cleared k h l =
      past k h
      ∙ get_or-append (replicate (n - length ws) 0) (drop n p) 0 (k - length ws) (rw (length-replicate {A = ℕ} (n - length ws) 0) (omega arith))
      ∙ get_or-replicate {A = ℕ} (n - length ws) (k - length ws) 0 0 (omega arith)

  beyond : (k : ℕ) → n ≤ k → get_or (ws ++ behind) k 0 ≡ get_or p k 0
  beyond k h =
      let e : k - length ws ≡ length (replicate {A = ℕ} (n - length ws) 0) + (k - n) = omega (arith, length-replicate {A = ℕ} (n - length ws) 0) in
      let f : n + (k - n) ≡ k = omega arith in
      past k (omega arith)
      ∙ ap (λ j. get_or behind j 0) e
      ∙ get_or-append-add (replicate (n - length ws) 0) (drop n p) (k - n) 0
      ∙ get_or-drop n p (k - n) 0
      ∙ ap (λ j. get_or p j 0) f

  -- the payments closed up fill the first m places, where those from n on were 0
  pub closed-fill : (m : ℕ) → n ≤ m → m ≤ length p → ((k : ℕ) → n ≤ k → k < m → get_or p k 0 ≡ 0) → closed_up n ws ++ drop n p ≡ fill m (λ k. get_or ws k 0) p
  closed-fill m h g zeros =
      append_assoc ws (replicate (n - length ws) 0) (drop n p)
      ∙ is-fill (λ k. get_or ws k 0) p m (ws ++ behind) 0 g
      (rw (length-append, length-append, length-replicate {A = ℕ}, length-drop) (omega arith))
      (λ k l. elim (dec_lt k (length ws)) [
        | yes q ↦ get_or-append ws behind 0 k q
        | no q ↦ zero-at k l (omega arith) (dec_lt k n) ∙ sym (get_or-eq_default ws 0 {n = k} (omega arith))
      ])
      (λ k l. beyond k (omega arith))
    where
      zero-at : (k : ℕ) → k < m → length ws ≤ k → Dec (k < n) → get_or (ws ++ behind) k 0 ≡ 0
      zero-at k l q (yes s) = cleared k q s
      zero-at k l q (no s) = beyond k (omega arith) ∙ zeros k (omega arith) l
