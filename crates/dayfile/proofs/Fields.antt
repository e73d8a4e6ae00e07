-- From places in a line to its fields: the next tab ends a field, and the fields behind it follow.
use native.Mathlib.Omega.{arith}
use mathlib.Core.Path.{◌≡◌, refl, sym, ap, ◌∙◌}
use mathlib.Core.Bool.{Bool, true, false, cond}
use mathlib.Core.List.{List, [], ◌∷◌}
use Prim.Native.Nat.{ℕ, zero, suc, ◌+◌, ◌-◌, ◌≤◌, ◌<◌}
use lib.Dec.{eqb, leb-suc-suc}
use lib.ListN.{length, get_or, take, drop}
use lib.Seq.{drop-drop}
use mathlib.Core.Logic.{◌≢◌}
use Rattle.std.proofs.lemmas.List.Recursion.{is_position_or_len}
use Rattle.std.proofs.lemmas.List.Sums.{position_or_len_is}
use borrow.Author.Tests.{le-leb, lt-leb, eq-eqb, ne_eqb}
use Rattle.dayfile.specs.Fields.{fields_of, fields_from, up_to, onto}

-- the first tab: no byte before it is one
pub tab_at : (s : List ℕ) (e : ℕ) → e ≤ length s → ((j : ℕ) → j < e → get_or s j 0 ≢ 9) → (e < length s → get_or s e 0 ≡ 9) → e ≡ up_to s
unfolding up_to
tab_at s e l f g = sym (is_position_or_len up_to (λ b. eqb b 9) refl (λ b t. ap (cond (eqb b 9) 0) (omega arith)) s
    ∙ position_or_len_is (λ b. eqb b 9) s e 0 l (λ k q. ne_eqb _ 9 (f k q)) (λ q. eq-eqb _ 9 (g q)))

up_by : (p : Bool) (u l : ℕ) → u ≤ l → cond p 0 (suc u) ≤ suc l
up_by true u l h = omega arith
up_by false u l h = omega arith

pub tab-within : (s : List ℕ) → up_to s ≤ length s
unfolding up_to
tab-within [] = omega arith
tab-within (b ∷ s) = up_by (eqb b 9) (up_to s) (length s) (tab-within s)

more : List ℕ → List (List ℕ)
more [] = []
more (b ∷ t) = fields_of t

split_by : (b : ℕ) (s : List ℕ) (p : Bool) → fields_of s ≡ take (up_to s) s ∷ more (drop (up_to s) s)
    → cond p ([] ∷ fields_of s) (onto b (fields_of s)) ≡ take (cond p 0 (suc (up_to s))) (b ∷ s) ∷ more (drop (cond p 0 (suc (up_to s))) (b ∷ s))
unfolding more
split_by b s true i = refl
split_by b s false i = rw i

split : (s : List ℕ) → fields_of s ≡ take (up_to s) s ∷ more (drop (up_to s) s)
unfolding fields_of up_to more
split [] = refl
split (b ∷ s) = split_by b s (eqb b 9) (split s)

more-end : (s : List ℕ) (k : ℕ) → k ≤ length s → more (drop k s) ≡ fields_from (k + 1) s
unfolding more
more-end [] k h = let l : 0 < k + 1 = omega arith in let e : k ≡ 0 = omega arith in rw (lt-leb (k + 1) 0 l, e)
more-end (b ∷ s) zero h = let l : 1 ≤ suc (length s) = omega arith in rw (le-leb 1 (suc (length s)) l)
more-end (b ∷ s) (suc k) h =
    let e : suc k + 1 ≡ suc (k + 1) = omega arith in
    more-end s k (omega arith) ∙ rw (e, leb-suc-suc (k + 1) (length s))

-- the first field ends at the next tab, and the others begin behind it
pub fields-step : (s : List ℕ) (at e : ℕ) → at ≤ length s → e ≡ at + up_to (drop at s) → e ≤ length s
    → fields_from at s ≡ take (e - at) (drop at s) ∷ fields_from (e + 1) s
fields-step s at e h q l =
    let u : e - at ≡ up_to (drop at s) = omega arith in
    let d : drop (up_to (drop at s)) (drop at s) ≡ drop e s = drop-drop (up_to (drop at s)) at s ∙ ap (λ (k : ℕ). drop k s) (sym q) in
    rw (le-leb at (length s) h) (split (drop at s) ∙ rw (d, more-end s e l, u))

pub fields-end : (s : List ℕ) (at : ℕ) → length s < at → fields_from at s ≡ []
fields-end s at h = rw (lt-leb at (length s) h)

pub fields-line : (s : List ℕ) (e : ℕ) → e ≡ 0 + up_to s → e ≤ length s → fields_of s ≡ take e s ∷ fields_from (e + 1) s
fields-line s e q l =
    let z : e - 0 ≡ e = omega arith in
    let w : fields_from 0 s ≡ fields_of s = rw (le-leb 0 (length s) (omega arith)) in
    sym w ∙ fields-step s 0 e (omega arith) q l ∙ rw z
