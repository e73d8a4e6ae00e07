-- What a code says of the lent bytes: other than 0, that none of them changed; 0, that the call was fine and its lists were stored.
use mathlib.Core.Path.{◌≡◌, refl, ap, ◌∙◌}
use mathlib.Core.Logic.{◌≢◌}
use mathlib.Core.Bool.{Bool, true, false, cond}
use mathlib.Core.List.{List}
use Prim.Native.Nat.{ℕ, ◌≤◌}
use native.Mathlib.Omega.{arith}
use lib.ListN.{length}
use Rattle.tables.specs.Sizes.{bytes}
use Rattle.tables.specs.Layout.{Tables}
use Rattle.answers.specs.Codes.{code_of, first, Judged}
use Rattle.answers.specs.Outcome.{Outcome, Act, decided, judgement, held, called}
use Rattle.answers.specs.declared.Refusal.{Refusal}
use Rattle.answers.specs.declared.Refusal.TheVariants.{State, Member, Same, Amount, Number, Full, Money, Nothing, Cover, Counts, Opening, Line, Room}
use Rattle.std.specs.Prelude.{Ok, Err}
use Rattle.opening.specs.Open.{open_act}
use Rattle.entry.specs.Deposit.{deposit_act}
use Rattle.entry.specs.Submit.{submit_act}
use Rattle.settling.specs.Release.{release_act}
use Rattle.settling.specs.Group.{group_act}
use Rattle.resolving.specs.Resolve.{resolve_act}
use Rattle.lent.specs.Bytes.{tables_in, with_tables, roomy, counts_in, signed_in}
use Rattle.lent.specs.Reply.{Lent, Told, yes, no, written, on_bytes, reply}
use Rattle.lent.specs.Asks.{Ask, opens, deposits, submits, releases, groups, resolves, replied}
use Rattle.lent.specs.Asks.{told_opened, told_deposited, told_submitted, told_released, told_grouped, told_resolved}
use Rattle.lent.proofs.Replies.{lent-room}

-- ---- refused

module _ (x : Lent) where
  written_keeps : (W : Tables) (w : Told) → (written x W w).0 ≢ 0 → (written x W w).1 ≡ x
  written_keeps W (yes k p) n = absurd (n refl)
  written_keeps W (no r) n = refl

  reply-keeps : {A : Type 0} (least : ℕ) (tell : A → Told) (f : Tables → Outcome A) → (reply least tell f x).0 ≢ 0 → (reply least tell f x).1 ≡ x
  reply-keeps least tell f = go (roomy (length x.tables) (length x.answer) least)
    where
      go : (b : Bool) → (cond b (on_bytes tell f x) (1, x)).0 ≢ 0 → (cond b (on_bytes tell f x) (1, x)).1 ≡ x
      go true n = written_keeps (f (tables_in x.tables)).after (tell (f (tables_in x.tables)).answer) n
      go false n = refl

  replied-keeps : (q : Ask) → (replied q x).0 ≢ 0 → (replied q x).1 ≡ x
  replied-keeps (opens n u v) = reply-keeps 8 told_opened (held (open_act n (signed_in u) (signed_in v)))
  replied-keeps (deposits m a) = reply-keeps 8 told_deposited (called (deposit_act m a))
  replied-keeps (submits m n q a) = reply-keeps 0 told_submitted (called (submit_act m n q a))
  replied-keeps (releases m) = reply-keeps 16 told_released (called (release_act m))
  replied-keeps (groups u) = reply-keeps 16 told_grouped (called (group_act (counts_in u)))
  replied-keeps resolves = reply-keeps 48 told_resolved (called (resolve_act (counts_in x.counts)))

-- whatever was asked: where the code is not 0, no lent byte changed
pub refused-keeps : (q : Ask) (x : Lent) {y : Lent} {k : ℕ} → (k, y) ≡ replied q x → k ≢ 0 → y ≡ x
refused-keeps q x e n = ap (λ (r : ℕ × Lent). r.1) e ∙ replied-keeps x q (λ z. n (ap (λ (r : ℕ × Lent). r.0) e ∙ z))

-- ---- accepted

some-code : (r : Refusal) → 1 ≤ code_of r
some-code State = omega arith
some-code Member = omega arith
some-code Same = omega arith
some-code Amount = omega arith
some-code Number = omega arith
some-code Full = omega arith
some-code Money = omega arith
some-code Nothing = omega arith
some-code Cover = omega arith
some-code Counts = omega arith
some-code Opening = omega arith
some-code Line = omega arith
some-code Room = omega arith

-- the call k, judged j, was accepted on the bytes s, which became t
pub record Accepted {A : Type 0} (k : Act A) (j : Judged) (s t : List ℕ) : Type 0 where
  pub fine : j ≡ Ok tt
  pub room : bytes ≤ length s
  pub stored : t ≡ with_tables s (decided k (tables_in s) j).after

module _ {A : Type 0} (k : Act A) (least : ℕ) (tell : A → Told) (refuses : (r : Refusal) → tell (k.refuse r) ≡ no r) (x : Lent) {y : Lent} where
  told-yes : (W : Tables) (w : Told) → (0, y) ≡ written x W w → y.tables ≡ with_tables x.tables W
  told-yes W (yes c p) e = ap (λ (r : ℕ × Lent). r.1.tables) e
  told-yes W (no r) e = let z : 0 ≡ code_of r = ap (λ (r : ℕ × Lent). r.0) e in absurd (omega (arith, some-code r))

  judged : (j : Judged) → bytes ≤ length x.tables
      → (0, y) ≡ written x (decided k (tables_in x.tables) j).after (tell (decided k (tables_in x.tables) j).answer)
      → Accepted k j x.tables y.tables
  judged (Ok u) l e = record { fine = refl; room = l; stored = told-yes _ (tell (k.does (tables_in x.tables)).answer) e }
  judged (Err r) l e =
      let f : (0, y) ≡ written x (tables_in x.tables) (no r) = e ∙ ap (written x (tables_in x.tables)) (refuses r) in
      let z : 0 ≡ code_of r = ap (λ (r : ℕ × Lent). r.0) f in
      absurd (omega (arith, some-code r))

  lent-judged : (j : Judged) (b : Bool) → roomy (length x.tables) (length x.answer) least ≡ b
      → (0, y) ≡ cond b (written x (decided k (tables_in x.tables) j).after (tell (decided k (tables_in x.tables) j).answer)) (1, x)
      → Accepted k j x.tables y.tables
  lent-judged j true f e = judged j (lent-room (length x.tables) (length x.answer) least f).0 e
  lent-judged j false f e = let z : ◌≡◌ {A = ℕ} 0 1 = ap (λ (r : ℕ × Lent). r.0) e in absurd (omega arith)

  -- a call with code 0 was fine, and its lists were stored,
  pub called-accepted : (0, y) ≡ reply least tell (called k) x → Accepted k (judgement k (tables_in x.tables)) x.tables y.tables
  unfolding called
  called-accepted e = lent-judged (judgement k (tables_in x.tables)) (roomy (length x.tables) (length x.answer) least) refl e

  -- and so was an open
  pub held-accepted : (0, y) ≡ reply least tell (held k) x → Accepted k (first (k.tests (tables_in x.tables))) x.tables y.tables
  unfolding held
  held-accepted e = lent-judged (first (k.tests (tables_in x.tables))) (roomy (length x.tables) (length x.answer) least) refl e
