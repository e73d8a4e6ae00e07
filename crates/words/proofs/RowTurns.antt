-- A row is read and written from its first number on: one number of each, and the end, at every width and sign.
use Rattle.std.proofs.Common.{◌≡◌, ℕ, suc, ◌+◌, ◌-◌, ◌*◌, ◌≤◌, ◌<◌, List, ◌++◌, length, get_or, set, take, drop, sym, ap, ◌∙◌, arith, add-one, append_assoc, append-nil, drop-cons, length-set, take-suc-set, take_all}
use Rattle.std.proofs.Math.ListN.{drop_of_length-le}
use Rattle.std.proofs.Math.Nat.{suc-mul}
use Rattle.words.proofs.Number.{length-put}
use Rattle.words.specs.Le.{le_at, put_at}
use Rattle.words.specs.Row.{row_at, put_row}

next : (w i at : ℕ) → at + (i + 1) * w ≡ at + i * w + w
next w i at = let g : (i + 1) * w ≡ i * w + w = rw (add-one, suc-mul) in omega arith

-- The first i of out, and behind them the rest of the row as it is to be, are the row.
pub record Filling {A : Type 0} (f : ℕ → A) (w : ℕ) (s : List ℕ) (at : ℕ) (out₀ out : List A) (i : ℕ) : Type 0 where
  pub within : i ≤ length out₀
  pub same : length out ≡ length out₀
  pub row : take i out ++ row_at f w (length out₀ - i) s (at + i * w) ≡ row_at f w (length out₀) s at

-- With the rest of xs written, s is what s₀ is with all of xs written.
pub record Writing {A : Type 0} (g : A → ℕ) (w : ℕ) (xs : List A) (at : ℕ) (s₀ s : List ℕ) (i : ℕ) : Type 0 where
  pub within : i ≤ length xs
  pub same : length s ≡ length s₀
  pub row : put_row g w s (at + i * w) (drop i xs) ≡ put_row g w s₀ at xs

module _ {A : Type 0} {f : ℕ → A} {w : ℕ} {s : List ℕ} {at : ℕ} {out₀ : List A} where
  -- With number i filled in, the row from i + 1 on is to come.
  pub fill-turn : {out : List A} {i : ℕ} {x : A} → Filling f w s at out₀ out i → i < length out₀ → x ≡ f (le_at w s (at + i * w)) → Filling f w s at out₀ (set out i x) (i + 1)
  unfolding row_at
  fill-turn {out} {i} {x} v h e =
      let l : i < length out = omega (arith, v.same) in
      let k : length out₀ - i ≡ suc (length out₀ - suc i) = omega arith in
      record { within = omega arith; same = length-set out i x ∙ v.same; row = rw (next, add-one, take-suc-set out i x l, append_assoc, e) (rw k at v.row) }

  -- With all filled in, out is the row.
  pub fill_end : {out : List A} {i : ℕ} → Filling f w s at out₀ out i → length out₀ ≤ i → out ≡ row_at f w (length out₀) s at
  unfolding row_at
  fill_end {out} {i} v h =
      let l : length out ≤ i = omega (arith, v.same) in
      let e : length out₀ - i ≡ 0 = omega arith in
      sym (rw (e, take_all i out l, append-nil)) ∙ v.row

module _ {A : Type 0} {g : A → ℕ} {w : ℕ} {xs : List A} {at : ℕ} {s₀ : List ℕ} where
  -- With number i written, xs from i + 1 on is left.
  pub write-turn : {s t : List ℕ} {i : ℕ} {x : A} → Writing g w xs at s₀ s i → i < length xs → x ≡ get_or xs i x → t ≡ put_at w s (at + i * w) (g x) → Writing g w xs at s₀ t (i + 1)
  unfolding put_row
  write-turn {s} {t} {i} {x} v h is e =
      let f : t ≡ put_at w s (at + i * w) (g (get_or xs i x)) = e ∙ ap (λ (y : A). put_at w s (at + i * w) (g y)) is in
      record { within = omega arith; same = ap length f ∙ length-put w s _ _ ∙ v.same; row = rw (f, next, add-one) (rw (drop-cons xs i x h) at v.row) }

  -- With all written, nothing is left.
  pub write-end : {s : List ℕ} {i : ℕ} → Writing g w xs at s₀ s i → length xs ≤ i → s ≡ put_row g w s₀ at xs
  unfolding put_row
  write-end v h = sym (rw (drop_of_length-le xs h)) ∙ v.row
