-- What is asked of the house in lent bytes, what each call tells of its answer, and what it replies.
use Rattle.std.specs.Prelude.{ℤ, List, [], ◌∷◌, ℕ, Ok, Err, Result, ⊤}
use Rattle.std.specs.Int.Count.{ones}
use Rattle.std.specs.Int.{w64}
use Rattle.std.proofs.Common.{of_z}
use Rattle.sets.specs.Sets.{lowest_in}
use Rattle.answers.specs.Verdicts.{verdict_number}
use Rattle.answers.specs.Outcome.{held, called}
use Rattle.answers.specs.declared.Refusal.{Refusal}
use Rattle.answers.specs.declared.Released.{Released}
use Rattle.answers.specs.declared.Grouped.{Grouped}
use Rattle.answers.specs.declared.Resolution.{Resolution}
use Rattle.opening.specs.Open.{open_act}
use Rattle.entry.specs.Deposit.{deposit_act}
use Rattle.entry.specs.Submit.{submit_act}
use Rattle.settling.specs.Release.{release_act}
use Rattle.settling.specs.Group.{group_act}
use Rattle.resolving.specs.Resolve.{resolve_act}
use Rattle.lent.specs.Bytes.{counts_in, signed_in}
use Rattle.lent.specs.Reply.{Lent, Told, yes, no, reply}

-- ---- what is told

-- the sum of balances
abbrev pub told_opened : Result ℤ Refusal → Told
told_opened (Ok x) = yes [] (of_z w64 x ∷ [])
told_opened (Err r) = no r

-- the new balance
abbrev pub told_deposited : Result ℤ Refusal → Told
told_deposited (Ok b) = yes [] (of_z w64 b ∷ [])
told_deposited (Err r) = no r

-- nothing but the code
abbrev pub told_submitted : Result ⊤ Refusal → Told
told_submitted (Ok u) = yes [] []
told_submitted (Err r) = no r

-- the payment's number and amount
abbrev pub told_released : Result Released Refusal → Told
told_released (Ok d) = yes [] (d.number ∷ d.amount ∷ [])
told_released (Err r) = no r

-- how many payments, and their sum
abbrev pub told_grouped : Result Grouped Refusal → Told
told_grouped (Ok d) = yes [] (d.payments ∷ d.sum ∷ [])
told_grouped (Err r) = no r

-- the verdict, how many payments, their sum, the set of members still waiting, how many those are, and the lowest
abbrev pub answer_parts : Resolution → List ℕ
answer_parts x = verdict_number x.verdict ∷ x.payments ∷ x.sum ∷ x.waiting ∷ ones x.waiting ∷ lowest_in x.waiting ∷ []

-- besides, the counts
abbrev pub told_with : List ℕ → Result Resolution Refusal → Told
told_with k (Ok x) = yes k (answer_parts x)
told_with k (Err r) = no r

abbrev pub told_resolved : Result Resolution Refusal × List ℕ → Told
told_resolved a = told_with a.1 a.0

-- ---- the replies

-- what is asked, by the numbers and the bytes that are lent to be read
pub data Ask : Type 0 where
  opens : (n : ℕ) (balances lines : List ℕ) → Ask
  deposits : (m x : ℕ) → Ask
  submits : (m n q x : ℕ) → Ask
  releases : (m : ℕ) → Ask
  groups : (counts : List ℕ) → Ask
  resolves : Ask

-- how many bytes of the answer it writes at most; a shorter one is refused with 1
abbrev pub least : Ask → ℕ
least (opens n u v) = 8
least (deposits m x) = 8
least (submits m n q x) = 0
least (releases m) = 16
least (groups u) = 16
least resolves = 48

-- the code, and the lent bytes after it. The counts of a resolution are read for how many there are.
abbrev pub replied : Ask → Lent → ℕ × Lent
replied (opens n u v) x = reply (least (opens n u v)) told_opened (held (open_act n (signed_in u) (signed_in v))) x
replied (deposits m a) x = reply (least (deposits m a)) told_deposited (called (deposit_act m a)) x
replied (submits m n q a) x = reply (least (submits m n q a)) told_submitted (called (submit_act m n q a)) x
replied (releases m) x = reply (least (releases m)) told_released (called (release_act m)) x
replied (groups u) x = reply (least (groups u)) told_grouped (called (group_act (counts_in u))) x
replied resolves x = reply (least resolves) told_resolved (called (resolve_act (counts_in x.counts))) x
