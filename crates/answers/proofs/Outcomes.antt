-- What holds of every call, whatever it does. That two results are equal needs no law: a call is a function.
use mathlib.Core.Path.{◌≡◌, refl, sym, ap, ◌∙◌}
use mathlib.Core.Bool.{true, false, not}
use mathlib.Core.Logic.{◌≢◌}
use mathlib.Core.List.{◌∷◌}
use borrow.Author.Tests.{not-false}
use Rattle.tables.specs.Layout.{Tables}
use Rattle.tables.specs.State.{is_state}
use Rattle.tables.specs.Holds.{Holds}
use Rattle.tables.proofs.States.{state-holds, holds-state}
use Rattle.std.specs.Prelude.{Ok, Err}
use Rattle.answers.specs.Codes.{test, first, Judged}
use Rattle.answers.specs.Outcome.{Outcome, outcome, Act, decided, held, judgement, called}
use Rattle.answers.proofs.Judging.{first_fine}
use Rattle.answers.specs.declared.Refusal.{Refusal}
use Rattle.answers.specs.declared.Refusal.TheVariants.{State}

module _ {A : Type 0} (k : Act A) (T : Tables) where
  -- ---- on a state

  -- a request in which nothing is wrong is done,
  pub held-fine : first (k.tests T) ≡ Ok tt → held k T ≡ k.does T
  unfolding held
  held-fine e = ap (decided k T) e

  -- and one with a code is refused
  pub held-bad : {r : Refusal} → first (k.tests T) ≡ Err r → held k T ≡ outcome (k.refuse r) T
  unfolding held
  held-bad e = ap (decided k T) e

  -- ---- on any tables

  -- on a state it is that,
  pub called-held : is_state T ≡ true → called k T ≡ held k T
  unfolding called held
  called-held e = rw e

  -- and on others it is refused with 1
  pub called-none : is_state T ≡ false → called k T ≡ outcome (k.refuse State) T
  unfolding called
  called-none e = rw e

  -- a judgement that found nothing was made on a state,
  pub judgement-fine : judgement k T ≡ Ok tt → Holds T × (first (k.tests T) ≡ Ok tt)
  judgement-fine e = let f = first_fine (test (not (is_state T)) State ∷ k.tests T) e in
      (state-holds (not-false (is_state T) f.0), rw f.0 at e)

  -- and on a state it is the call's own
  pub judgement-held : Holds T → judgement k T ≡ first (k.tests T)
  judgement-held h = rw (holds-state h)

-- calls that refuse alike, do alike and judge alike are the same
pub held_same : {A : Type 0} (k l : Act A) (T : Tables) → ((r : Refusal) → k.refuse r ≡ l.refuse r) → k.does T ≡ l.does T → first (k.tests T) ≡ first (l.tests T)
    → held k T ≡ held l T
unfolding held
held_same k l T e f g = go (first (k.tests T)) ∙ ap (decided l T) g
  where
    go : (j : Judged) → decided k T j ≡ decided l T j
    go (Ok u) = f
    go (Err r) = ap (λ a. outcome a T) (e r)

-- an equal answer has the same outcome
pub answer-is : {A : Type 0} {r s : A} {W : Tables} {u : Outcome A} → r ≡ s → outcome r W ≡ u → outcome s W ≡ u
answer-is {W} e f = ap (λ a. outcome a W) (sym e) ∙ f

-- ---- the laws of all calls, by how they were judged

module _ {A : Type 0} (k : Act A) (T : Tables) where
  -- a refusal changes nothing, where what is done is told apart from it,
  pub refusal-keeps : (j : Judged) {r : Refusal} → ((r : Refusal) → (k.does T).answer ≢ k.refuse r) → (decided k T j).answer ≡ k.refuse r → (decided k T j).after ≡ T
  refusal-keeps (Ok u) {r} apart e = absurd (apart r e)
  refusal-keeps (Err r) apart e = refl

  -- an answer that is none says that the request was fine,
  pub done-fine : (j : Judged) (u : Outcome A) → ((r : Refusal) → u.answer ≢ k.refuse r) → decided k T j ≡ u → j ≡ Ok tt
  done-fine (Ok v) u apart e = refl
  done-fine (Err r) u apart e = absurd (apart r (sym (ap (λ (v : Outcome A). v.answer) e)))

  -- and what holds of the tables before, and after what a fine request does, holds after the call: that they are a state, too
  pub decided-keeps : (P : Tables → Type 0) (j : Judged) → P T → (j ≡ Ok tt → P (k.does T).after) → P (decided k T j).after
  decided-keeps P (Ok u) p f = f refl
  decided-keeps P (Err r) p f = p
