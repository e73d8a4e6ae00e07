-- A code is given exactly where its condition holds and no earlier one; and what the two conditions that several calls judge say.
use mathlib.Core.Path.{◌≡◌, refl, ap, ◌∙◌}
use mathlib.Core.Bool.{Bool, true, false, cond}
use mathlib.Core.List.{List, [], ◌∷◌, ◌++◌}
use Prim.Native.Nat.{ℕ, ◌≤◌}
use native.Mathlib.Omega.{arith}
use lib.Dec.{leb}
use borrow.Author.Tests.{leb-true}
use Rattle.rule.specs.Lists.{Each}
use Rattle.tables.specs.Sizes.{most_amount}
use Rattle.tables.specs.Layout.{count_of}
use Rattle.tables.proofs.Tests.{and_both}
use Rattle.answers.specs.Codes.{Test, test, first, is_member, is_amount}
use Rattle.answers.specs.declared.Refusal.{Refusal}
use Rattle.std.specs.Prelude.{Ok, Err}

-- ---- the order of codes

abbrev passed : List Test → Type 0
passed = Each (λ t. t.when ≡ false)

-- among the tests one of code r holds, and none before it
pub record Given (ts : List Test) (r : Refusal) : Type 0 where
  pub earlier : List Test
  pub later : List Test
  pub parts : ts ≡ earlier ++ (test true r ∷ later)
  pub none : Each (λ t. t.when ≡ false) earlier

-- a code is given where its test holds and none before it,
pub first-bad : (ts : List Test) (r : Refusal) → first ts ≡ Err r → Given ts r
first-bad [] r e = let z : ◌≡◌ {A = ℕ} 0 1 = cc in absurd (omega arith)
first-bad (t ∷ ts) r e = go t.when t.code e (first-bad ts r)
  where
    go : (b : Bool) (k : Refusal) → cond b (Err k) (first ts) ≡ Err r → (first ts ≡ Err r → Given ts r) → Given (test b k ∷ ts) r
    go true k e ih = let q : k ≡ r = cc in record { earlier = []; later = ts; parts = rw q; none = tt }
    go false k e ih =
        let g = ih e in
        record { earlier = test false k ∷ g.earlier; later = g.later; parts = ap (λ l. test false k ∷ l) g.parts; none = (refl, g.none) }

-- and the other way
pub bad-first : {ts : List Test} {r : Refusal} → Given ts r → first ts ≡ Err r
bad-first {ts} {r} g = ap first g.parts ∙ go g.earlier g.none
  where
    go : (l : List Test) → passed l → first (l ++ (test true r ∷ g.later)) ≡ Err r
    go [] n = refl
    go (t ∷ l) n = rw n.0 (go l n.1)

-- a call is fine where no test holds
pub first_fine : (ts : List Test) → first ts ≡ Ok tt → Each (λ t. t.when ≡ false) ts
first_fine [] e = tt
first_fine (t ∷ ts) e = go t.when e (first_fine ts)
  where
    go : (b : Bool) → cond b (Err t.code) (first ts) ≡ Ok tt → (first ts ≡ Ok tt → passed ts) → (b ≡ false) × passed ts
    go true e ih = let z : ◌≡◌ {A = ℕ} 0 1 = cc in absurd (omega arith)
    go false e ih = (refl, ih e)

-- the parts of a test on a member's number,
pub member-in : (c : List ℕ) (m : ℕ) → is_member c m ≡ true → (1 ≤ m) × (m ≤ count_of c)
member-in c m e = let b = and_both (leb 1 m) (leb m (count_of c)) e in (leb-true 1 m b.0, leb-true m (count_of c) b.1)

-- and on an amount
pub amount-in : (x : ℕ) → is_amount x ≡ true → (1 ≤ x) × (x ≤ most_amount)
amount-in x e = let b = and_both (leb 1 x) (leb x most_amount) e in (leb-true 1 x b.0, leb-true x most_amount b.1)
