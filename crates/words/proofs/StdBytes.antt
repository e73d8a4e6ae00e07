-- The 8 bytes of a number, as std has them: a number of w bytes is the lowest w of them, and the others are 0.
use Rattle.std.proofs.Common.{◌≡◌, ℕ, zero, suc, ◌+◌, ◌-◌, ◌/◌, ◌%◌, ◌^◌, ◌≤◌, ◌<◌, List, [], ◌∷◌, ◌++◌, length, get_or, set, take, drop, replicate, w64, refl, sym, ap, ap₂, ◌∙◌, arith, add-one, append_assoc, drop-cons, drop-set-lt, get_or-drop, get_or-take, length-drop, length-set, take-append-drop, take-suc-set}
use Rattle.std.proofs.Math.Nat.{div-div-eq-div-mul, pow-succ'}
use Rattle.std.proofs.lemmas.List.{get_or_append_left, get_or-append_right, length-take-le}
use Rattle.std.specs.Int.{byte_at, bytes_low_first, from_le_bytes}
use Rattle.words.specs.Le.{le_at, put_at}

-- ---- reading

-- Where n bytes of t are w bytes of s, and zeros behind them, they are the same number.
same_number : (w n : ℕ) (s t : List ℕ) (at a : ℕ) → w ≤ n → ((k : ℕ) → k < w → get_or t (a + k) 0 ≡ get_or s (at + k) 0) → ((k : ℕ) → w ≤ k → get_or t (a + k) 0 ≡ 0)
    → le_at n t a ≡ le_at w s at
unfolding le_at
same_number w zero s t at a h f z = let e : w ≡ 0 = omega arith in rw e
same_number zero (suc n) s t at a h f z =
    let b : a + 0 ≡ a = omega arith in
    let i = same_number zero n s t at (a + 1) (omega arith) (λ k l. absurd (omega arith)) (λ k l. let e : a + 1 + k ≡ a + (k + 1) = omega arith in rw e (z (k + 1) (omega arith))) in
    let first : get_or t a 0 ≡ 0 = rw b at (z 0 (omega arith)) in
    omega (arith, i, first)
same_number (suc w) (suc n) s t at a h f z =
    let b : a + 0 ≡ a = omega arith in
    let c : at + 0 ≡ at = omega arith in
    let i = same_number w n s t (at + 1) (a + 1) (omega arith)
    (λ k l. let e : a + 1 + k ≡ a + (k + 1) = omega arith in let d : at + 1 + k ≡ at + (k + 1) = omega arith in rw (e, d) (f (k + 1) (omega arith)))
    (λ k l. let e : a + 1 + k ≡ a + (k + 1) = omega arith in rw e (z (k + 1) (omega arith))) in
    let first : get_or t a 0 ≡ get_or s at 0 = rw (b, c) at (f 0 (omega arith)) in
    omega (arith, i, first)

-- All 8 bytes are a number of 8 bytes.
eight : (t : List ℕ) → from_le_bytes w64 t ≡ le_at 8 t 0
unfolding le_at
eight t = omega arith

zeros : (n k : ℕ) → get_or {A = ℕ} (replicate n 0) k 0 ≡ 0
zeros zero k = refl
zeros (suc n) zero = refl
zeros (suc n) (suc k) = zeros n k

-- The w bytes from the place on, put in front of zeros, are read as the number that they are.
pub read-bytes : {w v u : ℕ} (s : List ℕ) {r : List ℕ} (at : ℕ) → v ≡ w → u ≡ w → w ≤ 8 → at + w ≤ length s → r ≡ take (at + u - at) (drop at s)
    → from_le_bytes w64 (r ++ drop v (replicate 8 0)) ≡ le_at w s at
read-bytes {w} {v} {u} s {r} at vw uw h room e =
    let n : at + u - at ≡ w = omega arith in
    let is : r ≡ take w (drop at s) = rw n at e in
    let long : length r ≡ w = ap length is ∙ length-take-le w (drop at s) (simp length-drop (omega arith)) in
    let t : List ℕ = r ++ drop w (replicate 8 0) in
    let front : (k : ℕ) → k < w → get_or t (0 + k) 0 ≡ get_or s (at + k) 0 = λ k l.
    let z : 0 + k ≡ k = omega arith in
    rw z (get_or_append_left r _ 0 k (omega arith) ∙ ap (λ (q : List ℕ). get_or q k 0) is ∙ get_or-take w (drop at s) k 0 l ∙ get_or-drop at s k 0) in
    let behind : (k : ℕ) → w ≤ k → get_or t (0 + k) 0 ≡ 0 = λ k l.
    let z : 0 + k ≡ k = omega arith in
    rw z (get_or-append_right r _ w k 0 long l ∙ get_or-drop w (replicate 8 0) (k - w) 0 ∙ zeros 8 (w + (k - w))) in
    rw vw (◌∙◌ {b = le_at 8 t 0} (eight t) (same_number w 8 s t at 0 h front behind))

-- ---- writing

next-byte : (i x : ℕ) → byte_at (suc i) x ≡ byte_at i (x / 256)
next-byte zero x = omega arith
next-byte (suc i) x = ap (λ (y : ℕ). y % 256) (sym (div-div-eq-div-mul x 256 (256 ^ suc i) ∙ ap (λ (p : ℕ). x / p) (sym (pow-succ' 256 (suc i)))))

next-bytes : (i w x : ℕ) → bytes_low_first (suc i) w x ≡ bytes_low_first i w (x / 256)
next-bytes i zero x = refl
next-bytes i (suc w) x = ap₂ ◌∷◌ (next-byte i x) (next-bytes (suc i) w x)

-- The lowest w bytes are the first w of all.
pub lowest : (w n i x : ℕ) → w ≤ n → take w (bytes_low_first i n x) ≡ bytes_low_first i w x
lowest zero n i x h = refl
lowest (suc w) zero i x h = absurd (omega arith)
lowest (suc w) (suc n) i x h = ap (λ (r : List ℕ). byte_at i x ∷ r) (lowest w n (suc i) x (omega arith))

-- In the place of w bytes from the place on, they are the number written there.
pub put-bytes : (w : ℕ) (s : List ℕ) (at x : ℕ) → at + w ≤ length s → take at s ++ (bytes_low_first 0 w x ++ drop w (drop at s)) ≡ put_at w s at x
unfolding put_at
put-bytes zero s at x h = take-append-drop at s
put-bytes (suc w) s at x h =
    let t = set s at (x % 256) in
    let i = put-bytes w t (at + 1) (x / 256) (simp length-set (omega arith)) in
    let a : take (at + 1) t ≡ take at s ++ (x % 256 ∷ []) = rw add-one (take-suc-set s at (x % 256) (omega arith)) in
    let b : drop (at + 1) t ≡ drop (suc at) s = rw add-one (drop-set-lt (suc at) s at (x % 256) (omega arith)) in
    rw (drop-cons s at 0 (omega arith), next-bytes 0 w x) (rw (a, append_assoc, b) at i)
