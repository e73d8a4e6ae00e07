-- What a call is, and what it does: its answer, and the tables after it.
use Rattle.std.specs.Prelude.{not, List, ◌∷◌, Ok, Err}
use Rattle.tables.specs.Layout.{Tables}
use Rattle.tables.specs.State.{is_state}
use Rattle.answers.specs.Codes.{Test, test, first, Judged}
use Rattle.answers.specs.declared.Refusal.{Refusal}
use Rattle.answers.specs.declared.Refusal.TheVariants.{State}

pub record Outcome (A : Type 0) : Type 0 where
  pub answer : A
  pub after : Tables

abbrev pub outcome : {A : Type 0} → A → Tables → Outcome A
outcome r T = record { answer = r; after = T }

-- a call with answers A: how it refuses, its codes in their order, and what it does where none applies
pub record Act (A : Type 0) : Type 0 where
  pub refuse : Refusal → A
  pub tests : Tables → List Test
  pub does : Tables → Outcome A

-- judged so: a refusal changes nothing
abbrev pub decided : {A : Type 0} → Act A → Tables → Judged → Outcome A
decided k T (Ok u) = k.does T
decided k T (Err r) = outcome (k.refuse r) T

-- on tables that hold a state
unfoldable pub held : {A : Type 0} → Act A → Tables → Outcome A
held k T = decided k T (first (k.tests T))

-- on any tables: those that hold no state are refused with 1
abbrev pub judgement : {A : Type 0} → Act A → Tables → Judged
judgement k T = first (test (not (is_state T)) State ∷ k.tests T)

unfoldable pub called : {A : Type 0} → Act A → Tables → Outcome A
called k T = decided k T (judgement k T)
