-- The next line of the end: it is the first of those that are left, and one fewer is left behind it.
use mathlib.Core.Path.{◌≡◌, refl, ap, ◌∙◌, subst}
use mathlib.Core.Bool.{Bool, true, false, cond}
use mathlib.Core.List.{List, [], ◌∷◌, ◌++◌, append-nil}
use Prim.Native.Nat.{ℕ, suc, ◌+◌, ◌≤◌, ◌<◌}
use native.Mathlib.Omega.{arith}
use borrow.Author.Tests.{ltb-true, ltb-false}
use lib.Dec.{ltb}
use lib.ListN.{length, take, drop, get_or-append, length-append}
use lib.Seq.{drop-cons, drop_at}
use Rattle.rule.specs.Lists.{listing}
use Rattle.rule.proofs.Lists.{length-listing, get_or-listing}
use Rattle.tables.specs.Sizes.{members}
use Rattle.tables.specs.Layout.{count_of, money_of, Tables}
use Rattle.sheet.specs.declared.Says.{Says}
use Rattle.sheet.specs.declared.Says.TheVariants as S
use Rattle.sheet.specs.Lines.{text_of}
use Rattle.night.specs.declared.Stage.{Stage}
use Rattle.night.specs.declared.Stage.TheVariants as G
use Rattle.night.specs.Lines.{balance_says, end_says, end_at, end_next}
use Rattle.night.specs.Stands.{Telling, StageStands}
use Rattle.desk.specs.declared.State.{State}
use Rattle.desk.specs.Sheet.{texts_of}
use Rattle.desk.specs.Desk.{end_said}
use Rattle.desk.specs.States.{night_of, turns_left, Fit}

-- behind k lines comes line k
text-next : (t : Tables) (k : ℕ) → k ≤ count_of t.counters → texts_of (take 1 (drop k (end_says t))) ≡ text_of (end_at t k)
text-next t k l = go (ltb k (count_of t.counters)) refl
  where
    go : (b : Bool) → ltb k (count_of t.counters) ≡ b
        → texts_of (take 1 (drop k (end_says t))) ≡ text_of (cond b (balance_says t k) (S.Money (money_of t.accounts)))
    go true e =
        let j = ltb-true k (count_of t.counters) e in
        let n = length-listing (count_of t.counters) (balance_says t) in
        let m : k < length (end_says t) = simp length-append (omega (arith, n)) in
        let i : k < length (listing (count_of t.counters) (balance_says t)) = omega (arith, n) in
        let d : drop k (end_says t) ≡ balance_says t k ∷ drop (suc k) (end_says t) =
        drop-cons (end_says t) k (balance_says t k) m
        ∙ ap (λ (x : Says). x ∷ drop (suc k) (end_says t))
        (get_or-append (listing (count_of t.counters) (balance_says t)) (S.Money (money_of t.accounts) ∷ []) (balance_says t k) k i
        ∙ get_or-listing (count_of t.counters) (balance_says t) k (balance_says t k) j) in
        ap (λ (x : List Says). texts_of (take 1 x)) d ∙ append-nil (text_of (balance_says t k))
    go false e =
        let j = ltb-false k (count_of t.counters) e in
        let n : length (listing (count_of t.counters) (balance_says t)) ≡ k = length-listing (count_of t.counters) (balance_says t) ∙ omega arith in
        rw (drop_at (listing (count_of t.counters) (balance_says t)) (S.Money (money_of t.accounts) ∷ []) k n, append-nil)

module _ (s : State) (t : Tables) (k : ℕ) (q : s.stage ≡ G.Ending k) where
  -- the tables hold a state, of which k members were told
  pub telling : {n : ℕ} → Fit s t n → Telling k t
  telling f = subst (λ (g : Stage). StageStands g t) q f.stands

  -- the night after it
  pub end-said : (out out₁ : List ℕ) (r : State) (l : Says) → Telling k t → l ≡ end_at t k → r.lines ≡ s.lines → r.stage ≡ end_next t.counters k
      → take r.used out₁ ≡ take s.used out ++ text_of l → night_of r t out₁ ≡ end_said (night_of s t out)
  end-said out out₁ r l h e a b f = rw (a, b, f, e, q, text-next t k h.told)

  -- one line fewer is left
  pub end-fewer : Telling k t → (r : State) → r.stage ≡ end_next t.counters k → (n : ℕ) → turns_left r.stage n < turns_left s.stage n
  end-fewer h r e n = rw (e, q) (go (ltb k (count_of t.counters)))
    where
      few : k ≤ members
      few = omega (arith, h.told, h.holds.counters.few)

      go : (b : Bool) → turns_left (cond b (G.Ending (k + 1)) G.Over) n < turns_left (G.Ending k) n
      go true = omega (arith, few)
      go false = omega (arith, few)

  -- and the tables suit the stage behind it
  pub end-stands : Telling k t → (r : State) → r.stage ≡ end_next t.counters k → StageStands r.stage t
  end-stands h r e = rw e (go (ltb k (count_of t.counters)) refl)
    where
      go : (b : Bool) → ltb k (count_of t.counters) ≡ b → StageStands (cond b (G.Ending (k + 1)) G.Over) t
      go true e = let j = ltb-true k (count_of t.counters) e in record { told = omega arith; holds = h.holds }
      go false e = tt
