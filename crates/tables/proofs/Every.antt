-- What `every f n` says of each number below n; and `all` over a list, a part of one, or the numbers themselves answers it.
use mathlib.Core.Path.{◌≡◌, refl, sym, ap, ◌∙◌, subst}
use mathlib.Core.Bool.{Bool, true, false, ◌&&◌}
use mathlib.Core.List.{List, [], ◌∷◌}
use Prim.Native.Nat.{ℕ, zero, suc, ◌+◌, ◌≤◌, ◌<◌}
use native.Mathlib.Omega.{arith}
use native.Mathlib.Decide.{ℕ_discrete}
use lib.ListN.{length, get_or, take, drop, length-take, length-drop}
use lib.Seq.{get_or-take, get_or-drop}
use Rattle.std.specs.List.{list_all, range_with_len, enumerate_from}
use Rattle.std.proofs.lemmas.List.FromFn.{length-range_with_len, get_or-range_with_len, length-enumerate_from, get_or-enumerate_from}
use Rattle.tables.specs.State.{every}
use Rattle.tables.proofs.Tests.{and_both, and-of}

-- where every f holds, f holds of each,
pub every-at : (f : ℕ → Bool) (n k : ℕ) → every f n ≡ true → k < n → f k ≡ true
unfolding every
every-at f zero k e h = absurd (omega arith)
every-at f (suc n) k e h = go (ℕ_discrete k n) (every-at f n k) (and_both (every f n) (f n) e)
  where
    go : Dec (k ≡ n) → (every f n ≡ true → k < n → f k ≡ true) → (every f n ≡ true) × (f n ≡ true) → f k ≡ true
    go (yes q) ih b = subst (λ (j : ℕ). f j ≡ true) (sym q) b.1
    go (no q) ih b = ih b.0 (omega arith)

-- and the other way
pub every_of : (f : ℕ → Bool) (n : ℕ) → ((k : ℕ) → k < n → f k ≡ true) → every f n ≡ true
unfolding every
every_of f zero g = refl
every_of f (suc n) g = and-of (every_of f n (λ k h. g k (omega arith))) (g n (omega arith))

-- the first number may be tested first
first : (f : ℕ → Bool) (n : ℕ) → every f (suc n) ≡ (f 0 && every (λ k. f (suc k)) n)
unfolding every
first f zero = last (f 0)
  where
    last : (a : Bool) → a ≡ (a && true)
    last true = refl
    last false = refl
first f (suc n) = ap (λ (b : Bool). b && f (suc n)) (first f n) ∙ regroup (f 0) (every (λ k. f (suc k)) n) (f (suc n))
  where
    regroup : (a b c : Bool) → ((a && b) && c) ≡ (a && (b && c))
    regroup true b c = refl
    regroup false b c = refl

zero-plus : (k : ℕ) → 0 + k ≡ k
zero-plus k = omega arith

-- `all` over a list answers it, where the test at place k says f of k;
pub every-list : {X : Type 0} (test : X → Bool) (f : ℕ → Bool) (d : X) (xs : List X) (n : ℕ) → length xs ≡ n → ((k : ℕ) → k < n → test (get_or xs k d) ≡ f k) → list_all test xs ≡ every f n
unfolding every
every-list test f d [] zero e h = refl
every-list test f d [] (suc n) e h = absurd (omega arith)
every-list test f d (x ∷ xs) zero e h = absurd (omega arith)
every-list test f d (x ∷ xs) (suc n) e h =
    rw (first f n, h 0 (omega arith), every-list test (λ k. f (suc k)) d xs n (omega arith) (λ k l. h (suc k) (omega arith)))

-- over n of its places, from one on,
pub every-part : {X : Type 0} (test : X → Bool) (f : ℕ → Bool) (d : X) (xs : List X) (from m n : ℕ) → m ≡ n → from + n ≤ length xs → ((k : ℕ) → k < n → test (get_or xs (from + k) d) ≡ f k) → list_all test (take m (drop from xs)) ≡ every f n
every-part {X} test f d xs from m n e l h =
    every-list test f d (take m (drop from xs)) n (omega (arith, length-take {A = X}, length-drop {A = X}))
    (λ k q. rw (get_or-take m (drop from xs) k d (omega arith), get_or-drop from xs k d) (h k q))

-- over the first n with their places,
pub every-numbered : {X : Type 0} (test : ℕ × X → Bool) (f : ℕ → Bool) (d : X) (xs : List X) (n : ℕ) → n ≤ length xs → ((k : ℕ) → k < n → test (k, get_or xs k d) ≡ f k) → list_all test (enumerate_from 0 (take n xs)) ≡ every f n
every-numbered {X} test f d xs n l h =
    let m : length (take n xs) ≡ n = omega (arith, length-take {A = X}) in
    every-list test f (0, d) (enumerate_from 0 (take n xs)) n (length-enumerate_from 0 (take n xs) ∙ m)
    (λ k q. rw (get_or-enumerate_from 0 (take n xs) k (0, d) (omega arith), get_or-take n xs k d q, zero-plus k) (h k q))

-- and over the numbers themselves
pub every-below : (test f : ℕ → Bool) (n : ℕ) → ((k : ℕ) → k < n → test k ≡ f k) → list_all test (range_with_len 0 n) ≡ every f n
every-below test f n h =
    every-list test f 0 (range_with_len 0 n) n (length-range_with_len 0 n) (λ k q. rw (get_or-range_with_len 0 n k 0 q, zero-plus k) (h k q))
