-- The code that a host gets is that of the judgement on the tables in its bytes.
use mathlib.Core.Path.{◌≡◌, refl, ap, ◌∙◌}
use mathlib.Core.Bool.{Bool, true, false, cond}
use Prim.Native.Nat.{ℕ}
use lib.ListN.{length}
use Rattle.tables.specs.Layout.{Tables}
use Rattle.answers.specs.Codes.{code_of, first, Judged}
use Rattle.answers.specs.Outcome.{Outcome, Act, decided, held, judgement, called}
use Rattle.answers.specs.declared.Refusal.{Refusal}
use Rattle.std.specs.Prelude.{Ok, Err}
use Rattle.opening.specs.Open.{open_act}
use Rattle.entry.specs.Deposit.{deposit_act}
use Rattle.entry.specs.Submit.{submit_act}
use Rattle.settling.specs.Release.{release_act}
use Rattle.settling.specs.Group.{group_act, book_act}
use Rattle.resolving.specs.Resolve.{resolve_act}
use Rattle.lent.specs.Bytes.{tables_in, roomy, signed_in, counts_in}
use Rattle.lent.specs.Reply.{Lent, Told, yes, no, written, on_bytes, reply}
use Rattle.lent.specs.Asks.{told_opened, told_deposited, told_submitted, told_released, told_grouped, told_resolved}
use Rattle.lent.specs.Asks.{Ask, opens, deposits, submits, releases, groups, resolves, replied, least}
use Rattle.demands.specs.Refusals.{code_in, judged_on}

abbrev code_told : Told → ℕ
code_told (yes c p) = 0
code_told (no r) = code_of r

module _ (x : Lent) where
  written-code : (W : Tables) (w : Told) → (written x W w).0 ≡ code_told w
  written-code W (yes c p) = refl
  written-code W (no r) = refl

  module _ {A : Type 0} (k : Act A) (tell : A → Told) (refuses : (r : Refusal) → tell (k.refuse r) ≡ no r)
      (accepts : (T : Tables) → code_told (tell (k.does T).answer) ≡ 0) where
    judged-code : (j : Judged) → let u = decided k (tables_in x.tables) j in (written x u.after (tell u.answer)).0 ≡ code_in j
    judged-code (Ok u) = let u = k.does (tables_in x.tables) in written-code u.after (tell u.answer) ∙ accepts (tables_in x.tables)
    judged-code (Err r) = written-code (tables_in x.tables) (tell (k.refuse r)) ∙ ap code_told (refuses r)

    reply-code : (m : ℕ) (f : Tables → Outcome A) (j : Judged) → f (tables_in x.tables) ≡ decided k (tables_in x.tables) j
        → (reply m tell f x).0 ≡ cond (roomy (length x.tables) (length x.answer) m) (code_in j) 1
    reply-code m f j e = go (roomy (length x.tables) (length x.answer) m)
      where
        go : (b : Bool) → (cond b (on_bytes tell f x) (1, x)).0 ≡ cond b (code_in j) 1
        go true = ap (λ (u : Outcome A). (written x u.after (tell u.answer)).0) e ∙ judged-code j
        go false = refl

  called-code : {A : Type 0} (k : Act A) (tell : A → Told) → ((r : Refusal) → tell (k.refuse r) ≡ no r) → ((T : Tables) → code_told (tell (k.does T).answer) ≡ 0)
      → (m : ℕ) → (reply m tell (called k) x).0 ≡ cond (roomy (length x.tables) (length x.answer) m) (code_in (judgement k (tables_in x.tables))) 1
  unfolding called
  called-code k tell f a m = reply-code k tell f a m (called k) (judgement k (tables_in x.tables)) refl

  held-code : {A : Type 0} (k : Act A) (tell : A → Told) → ((r : Refusal) → tell (k.refuse r) ≡ no r) → ((T : Tables) → code_told (tell (k.does T).answer) ≡ 0)
      → (m : ℕ) → (reply m tell (held k) x).0 ≡ cond (roomy (length x.tables) (length x.answer) m) (code_in (first (k.tests (tables_in x.tables)))) 1
  unfolding held
  held-code k tell f a m = reply-code k tell f a m (held k) (first (k.tests (tables_in x.tables))) refl

  pub replied-code : (q : Ask) → (replied q x).0 ≡ cond (roomy (length x.tables) (length x.answer) (least q)) (code_in (judged_on q x)) 1
  unfolding open_act deposit_act submit_act release_act group_act book_act resolve_act
  replied-code (opens n u v) = held-code (open_act n (signed_in u) (signed_in v)) told_opened (λ r. refl) (λ T. refl) 8
  replied-code (deposits m a) = called-code (deposit_act m a) told_deposited (λ r. refl) (λ T. refl) 8
  replied-code (submits m n q a) = called-code (submit_act m n q a) told_submitted (λ r. refl) (λ T. refl) 0
  replied-code (releases m) = called-code (release_act m) told_released (λ r. refl) (λ T. refl) 16
  replied-code (groups u) = called-code (group_act (counts_in u)) told_grouped (λ r. refl) (λ T. refl) 16
  replied-code resolves = called-code (resolve_act (counts_in x.counts)) told_resolved (λ r. refl) (λ T. refl) 48
