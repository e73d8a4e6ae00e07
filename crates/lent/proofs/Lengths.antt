-- A lent list is n numbers long exactly where it is n widths of bytes long: from what a quotient and its rest are.
use mathlib.Core.Path.{◌≡◌, refl, sym, ◌∙◌}
use mathlib.Core.Logic.{◌≢◌, ◌↔◌}
use mathlib.Core.Bool.{Bool, true, false, cond, ◌&&◌}
use mathlib.Core.List.{List}
use Prim.Native.Nat.{ℕ, ◌+◌, ◌*◌, ◌/◌, ◌%◌, ◌≤◌, ◌<◌}
use native.Mathlib.Nat.{div-add-mod', mul-div_cancel}
use native.Mathlib.Omega.{arith}
use lib.Dec.{eqb, leb}
use lib.ListN.{length}
use borrow.Author.Tests.{eqb-true, eq-eqb, ne_eqb, le-leb, lt-leb}
use Rattle.tables.specs.Sizes.{members}
use Rattle.tables.proofs.Tests.{and_both}
use Rattle.words.specs.Row.{row_at}
use Rattle.words.proofs.Row.{length-row}
use Rattle.lent.specs.Bytes.{entries}

module _ (w n : ℕ) where
  -- a rest is left
  pub entries-rest : n % w ≢ 0 → entries w n ≡ 0
  entries-rest h = rw (ne_eqb (n % w) 0 h)

  -- too many
  pub entries-many : n % w ≡ 0 → members < n / w → entries w n ≡ 0
  entries-many e h = rw (eq-eqb (n % w) 0 e, lt-leb (n / w) members h)

  -- a list
  pub entries-all : n % w ≡ 0 → n / w ≤ members → entries w n ≡ n / w
  entries-all e h = rw (eq-eqb (n % w) 0 e, le-leb (n / w) members h)

  -- so many fit into the bytes
  pub entries-within : n / w * w ≤ n
  entries-within = omega (arith, div-add-mod' n w)

-- whether it is so long, told by its bytes
module _ (w n m : ℕ) (some : 1 ≤ n) where
  pub bytes_of : entries w m ≡ n → m ≡ n * w
  bytes_of = go (eqb (m % w) 0 && leb (m / w) members) refl
    where
      go : (t : Bool) → (eqb (m % w) 0 && leb (m / w) members) ≡ t → cond t (m / w) 0 ≡ n → m ≡ n * w
      go true f e = let h = eqb-true (m % w) 0 (and_both _ _ f).0 in rw (← e) (omega (arith, div-add-mod' m w, h))
      go false f e = absurd (omega arith)

  pub entries-of : 1 ≤ w → n ≤ members → m ≡ n * w → entries w m ≡ n
  entries-of l h e =
      let d : n * w / w ≡ n = mul-div_cancel n l in
      let r : n * w / w * w + n * w % w ≡ n * w = div-add-mod' (n * w) w in
      let z : n * w + n * w % w ≡ n * w = rw d at r in
      rw e (entries-all w (n * w) (omega arith) (rw d h) ∙ d)

-- the list that is read of lent bytes is n long exactly where they are n widths long
pub long-exactly : {A : Type 0} (f : ℕ → A) (w n : ℕ) (u : List ℕ) → 1 ≤ w → 1 ≤ n → n ≤ members
    → (length (row_at f w (entries w (length u)) u 0) ≡ n) ↔ (length u ≡ n * w)
long-exactly f w n u l some h = (
  λ e. bytes_of w n (length u) some (sym (length-row f w _ u 0) ∙ e),
  λ e. length-row f w _ u 0 ∙ entries-of w n (length u) some l h e,
)
