-- What lies past the least lengths is not touched: the tables' bytes from 22,528 on, and the answer's behind its parts.
use mathlib.Core.Path.{◌≡◌, refl, sym, subst}
use mathlib.Core.Logic.{inr}
use mathlib.Core.Bool.{Bool, true, false, cond}
use mathlib.Core.List.{List}
use Prim.Native.Nat.{ℕ, ◌*◌, ◌≤◌}
use native.Mathlib.Omega.{arith}
use lib.ListN.{length, get_or}
use Rattle.words.specs.Row.{as_it_is}
use Rattle.words.proofs.Row.{length-put_row, put_row-outside}
use Rattle.tables.specs.Sizes.{bytes}
use Rattle.tables.specs.Layout.{Tables}
use Rattle.answers.specs.Outcome.{Outcome, held, called}
use Rattle.std.specs.Prelude.{ℤ, Ok, Err, Result, ⊤}
use Rattle.answers.specs.declared.Refusal.{Refusal}
use Rattle.answers.specs.declared.Released.{Released}
use Rattle.answers.specs.declared.Grouped.{Grouped}
use Rattle.answers.specs.declared.Resolution.{Resolution}
use Rattle.opening.specs.Open.{open_act}
use Rattle.entry.specs.Deposit.{deposit_act}
use Rattle.entry.specs.Submit.{submit_act}
use Rattle.settling.specs.Release.{release_act}
use Rattle.settling.specs.Group.{group_act}
use Rattle.resolving.specs.Resolve.{resolve_act}
use Rattle.lent.specs.Bytes.{tables_in, roomy, counts_in, signed_in}
use Rattle.lent.specs.Stands.{Least}
use Rattle.lent.proofs.Back.{least-in, stored-long, stored_past}
use Rattle.lent.specs.Reply.{Lent, Told, yes, no, written, on_bytes, reply}
use Rattle.lent.specs.Asks.{Ask, opens, deposits, submits, releases, groups, resolves, replied, least}
use Rattle.lent.specs.Asks.{told_opened, told_deposited, told_submitted, told_released, told_grouped, told_with, told_resolved}
use Rattle.days.specs.Days as day
use Rattle.hosts.proofs.Sizes.{after-least}

-- s became t, and what lies from place n on is as it was
pub record Stays (n : ℕ) (s t : List ℕ) : Type 0 where
  pub long : length t ≡ length s
  pub bytes : (k : ℕ) → n ≤ k → get_or t k 0 ≡ get_or s k 0

-- the lent bytes x became y: the answer stays from byte n on, and each slice is as long as before
pub record Past (n : ℕ) (x y : Lent) : Type 0 where
  pub tables : Stays bytes x.tables y.tables
  pub counts : length y.counts ≡ length x.counts
  pub answer : Stays n x.answer y.answer

-- at most n bytes are told
abbrev Within : ℕ → Told → Type 0
Within n (yes c p) = length p * 8 ≤ n
Within n (no r) = Unit {0}

same-past : (n : ℕ) (x : Lent) → Past n x x
same-past n x = record { tables = record { long = refl; bytes = λ k h. refl }; counts = refl; answer = record { long = refl; bytes = λ k h. refl } }

module _ (x : Lent) (n : ℕ) where
  written-past : (W : Tables) (w : Told) → Least W → Within n w → Past n x (written x W w).1
  written-past W (yes c p) l h = record {
    tables = record { long = stored-long x.tables W; bytes = stored_past x.tables W l };
    counts = length-put_row as_it_is 2 x.counts 0 c;
    answer = record { long = length-put_row as_it_is 8 x.answer 0 p; bytes = λ k q. put_row-outside as_it_is 8 x.answer 0 p k (inr (omega arith)) };
  }
  written-past W (no r) l h = same-past n x

  reply-past : {A : Type 0} (tell : A → Told) (f : Tables → Outcome A) → Least (f (tables_in x.tables)).after → ((r : A) → Within n (tell r))
      → Past n x (reply n tell f x).1
  reply-past tell f l h = go (roomy (length x.tables) (length x.answer) n)
    where
      go : (b : Bool) → Past n x (cond b (on_bytes tell f x) (1, x)).1
      go true = written-past (f (tables_in x.tables)).after (tell (f (tables_in x.tables)).answer) l (h (f (tables_in x.tables)).answer)
      go false = same-past n x

-- how much each call tells
opened-parts : (r : Result ℤ Refusal) → Within 8 (told_opened r)
opened-parts (Ok x) = omega arith
opened-parts (Err r) = tt

deposited-parts : (r : Result ℤ Refusal) → Within 8 (told_deposited r)
deposited-parts (Ok x) = omega arith
deposited-parts (Err r) = tt

submitted-parts : (r : Result ⊤ Refusal) → Within 0 (told_submitted r)
submitted-parts (Ok u) = omega arith
submitted-parts (Err r) = tt

released-parts : (r : Result Released Refusal) → Within 16 (told_released r)
released-parts (Ok x) = omega arith
released-parts (Err r) = tt

grouped-parts : (r : Result Grouped Refusal) → Within 16 (told_grouped r)
grouped-parts (Ok x) = omega arith
grouped-parts (Err r) = tt

resolved-parts : (k : List ℕ) (r : Result Resolution Refusal) → Within 48 (told_with k r)
resolved-parts k (Ok x) = omega arith
resolved-parts k (Err r) = tt

-- so with every reply,
replied-past : (q : Ask) (x : Lent) → Past (least q) x (replied q x).1
replied-past (opens n u v) x =
    let k = open_act n (signed_in u) (signed_in v) in
    reply-past x 8 told_opened (held k) (after-least (least-in x.tables) (day.opens n (signed_in u) (signed_in v))) opened-parts
replied-past (deposits m a) x =
    reply-past x 8 told_deposited (called (deposit_act m a)) (after-least (least-in x.tables) (day.deposits m a)) deposited-parts
replied-past (submits m n q a) x =
    reply-past x 0 told_submitted (called (submit_act m n q a)) (after-least (least-in x.tables) (day.submits m n q a)) submitted-parts
replied-past (releases m) x =
    reply-past x 16 told_released (called (release_act m)) (after-least (least-in x.tables) (day.releases m)) released-parts
replied-past (groups u) x =
    let k = group_act (counts_in u) in
    reply-past x 16 told_grouped (called k) (after-least (least-in x.tables) (day.groups (counts_in u))) grouped-parts
replied-past resolves x =
    let k = resolve_act (counts_in x.counts) in
    let l = after-least (least-in x.tables) (day.resolves (counts_in x.counts)) in
    reply-past x 48 told_resolved (called k) l (λ r. resolved-parts r.1 r.0)

-- whatever was asked, and whatever the code
pub past : (q : Ask) (x : Lent) {y : Lent} {k : ℕ} → (k, y) ≡ replied q x → Past (least q) x y
past q x {y} e = subst (λ (r : ℕ × Lent). Past (least q) x r.1) (sym e) (replied-past q x)
