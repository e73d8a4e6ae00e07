-- A call on bytes that hold a state is a request on their lists, or none where the code is not 0.
use mathlib.Core.Path.{◌≡◌, refl, sym, ap, ◌∙◌, subst}
use mathlib.Core.List.{List, [], ◌∷◌}
use Prim.Native.Nat.{ℕ, zero, suc, ◌≤◌}
use native.Mathlib.Omega.{arith}
use lib.ListN.{length}
use Rattle.rule.specs.Day.{Call as Noted, deposits as deposits_of, payments}
use Rattle.tables.specs.Sizes.{bytes}
use Rattle.tables.specs.Layout.{Tables}
use Rattle.tables.specs.Holds.{Holds}
use Rattle.answers.specs.Outcome.{Act, judgement, called}
use Rattle.std.specs.Prelude.{Ok}
use Rattle.answers.proofs.Outcomes.{judgement-fine}
use Rattle.entry.specs.Deposit.{deposit_act}
use Rattle.entry.specs.Submit.{submit_act}
use Rattle.settling.specs.Release.{release_act}
use Rattle.settling.specs.Group.{book_act, group_act}
use Rattle.resolving.specs.Resolve.{resolve_act}
use Rattle.lent.specs.Bytes.{tables_in, with_tables, counts_in, signed_in}
use Rattle.lent.specs.Stands.{Kept, Stands}
use Rattle.lent.proofs.Back.{kept-fits, stored-long, tables-back}
use Rattle.lent.specs.Reply.{Lent, lends}
use Rattle.lent.specs.Asks.{Ask, opens, deposits, submits, releases, groups, resolves, told_deposited, told_submitted, told_released, told_grouped, told_resolved}
use Rattle.days.specs.Days as day
use Rattle.days.specs.Days.{Request, after, GoesOn, after_all, made, Inside}
use Rattle.hosts.specs.Hosts.{HostCall, Continues, by_code, noted}
use Rattle.hosts.proofs.Replies.{refused-keeps, Accepted, called-accepted}
use Rattle.hosts.proofs.Sizes.{kept-after}

-- from s to t the requests qs were made, and of them cs is noted
pub record Link (s t : List ℕ) (cs : List Noted) (qs : List Request) : Type 0 where
  pub stands : Stands t
  pub inside : Inside qs (tables_in s)
  pub is : tables_in t ≡ after_all qs (tables_in s)
  pub deposits : (i : ℕ) → deposits_of (made qs (tables_in s)) i ≡ deposits_of cs i
  pub payments : (i : ℕ) → payments (made qs (tables_in s)) i ≡ payments cs i

-- lists that were stored are read back
pub stored-stands : (s : List ℕ) {t : List ℕ} {W : Tables} → bytes ≤ length s → Kept W → t ≡ with_tables s W → Stands t × (tables_in t ≡ W)
stored-stands s {t} {W} l k e =
    let b : tables_in t ≡ W = ap tables_in e ∙ tables-back s W (kept-fits k) l in
    (record { room = rw (ap length e ∙ stored-long s W) l; kept = subst Kept (sym b) k }, b)

-- the request that is made, on these lists
abbrev pub requested : Ask → List ℕ → List Request
requested (opens n u v) c = day.opens n (signed_in u) (signed_in v) ∷ []
requested (deposits m x) c = day.deposits m x ∷ []
requested (submits m n q x) c = day.submits m n q x ∷ []
requested (releases m) c = day.releases m ∷ []
requested (groups u) c = day.groups (counts_in u) ∷ []
requested resolves c = day.resolves (counts_in c) ∷ []

-- an accepted call was made on a state, and stored what its request does
pub record Took (s t : List ℕ) (cs : List Noted) (qs : List Request) : Type 0 where
  pub room : bytes ≤ length s
  pub holds : Holds (tables_in s)
  pub inside : Inside qs (tables_in s)
  pub stored : t ≡ with_tables s (after_all qs (tables_in s))
  pub deposits : (i : ℕ) → deposits_of (made qs (tables_in s)) i ≡ deposits_of cs i
  pub payments : (i : ℕ) → payments (made qs (tables_in s)) i ≡ payments cs i

-- an accepted call of the act k is the request r, where r does what k does, and of it ns is noted
module _ {A : Type 0} (k : Act A) (r : Request) {ns : List Noted} {s t : List ℕ} (a : Accepted k (judgement k (tables_in s)) s t) where
  took : after r (tables_in s) ≡ (called k (tables_in s)).after → GoesOn r (tables_in s)
      → (judgement k (tables_in s) ≡ Ok tt → (i : ℕ) → deposits_of (made (r ∷ []) (tables_in s)) i ≡ deposits_of ns i)
      → (judgement k (tables_in s) ≡ Ok tt → (i : ℕ) → payments (made (r ∷ []) (tables_in s)) i ≡ payments ns i) → Took s t ns (r ∷ [])
  unfolding called
  took e g f h = record {
    room = a.room;
    holds = (judgement-fine k (tables_in s) a.fine).0;
    inside = (g, tt);
    stored = rw e a.stored;
    deposits = f a.fine;
    payments = h a.fine;
  }

pub taken : {s t : List ℕ} (q : Ask) (c : HostCall q 0 s t) → Continues q 0 → Took s t (noted q) (requested q c.counts)
unfolding deposit_act submit_act release_act group_act book_act resolve_act
taken (opens n u v) c i = absurd (i refl)
taken {s} (deposits m x) c i =
    let a = called-accepted (deposit_act m x) 8 told_deposited (λ r. refl) (lends s c.counts c.answer) c.promise in
    took (deposit_act m x) (day.deposits m x) a refl tt (λ e i. rw e) (λ e i. rw e)
taken {s} (submits m n q x) c i =
    let a = called-accepted (submit_act m n q x) 0 told_submitted (λ r. refl) (lends s c.counts c.answer) c.promise in
    took (submit_act m n q x) (day.submits m n q x) a refl tt (λ e i. rw e) (λ e i. rw e)
taken {s} (releases m) c i =
    let a = called-accepted (release_act m) 16 told_released (λ r. refl) (lends s c.counts c.answer) c.promise in
    took (release_act m) (day.releases m) a refl tt (λ e i. rw e) (λ e i. rw e)
taken {s} (groups u) c i =
    let a = called-accepted (group_act (counts_in u)) 16 told_grouped (λ r. refl) (lends s c.counts c.answer) c.promise in
    took (group_act (counts_in u)) (day.groups (counts_in u)) a refl tt (λ e i. rw e) (λ e i. rw e)
taken {s} resolves c i =
    let k = resolve_act (counts_in c.counts) in
    let a = called-accepted k 48 told_resolved (λ r. refl) (lends s c.counts c.answer) c.promise in
    took k (day.resolves (counts_in c.counts)) a refl tt (λ e i. rw e) (λ e i. rw e)

kept-all : {T : Tables} → Kept T → (qs : List Request) → Inside qs T → Kept (after_all qs T)
kept-all k [] g = k
kept-all {T = T} k (q ∷ qs) g = kept-all {T = after q T} (kept-after k q g.0) qs g.1

-- what it stored is read back
pub took-link : {s t : List ℕ} {cs : List Noted} {qs : List Request} → Kept (tables_in s) → Took s t cs qs → Link s t cs qs
took-link {s} {qs = qs} k a =
    let g = stored-stands s a.room (kept-all k qs a.inside) a.stored in
    record { stands = g.0; inside = a.inside; is = g.1; deposits = a.deposits; payments = a.payments }

-- so any call is its request, or nothing
pub linked : {s t : List ℕ} {q : Ask} {k : ℕ} → Stands s → (c : HostCall q k s t) → Continues q k → Link s t (by_code k (noted q)) (by_code k (requested q c.counts))
linked {q = q} {k = zero} h c i = took-link h.kept (taken q c i)
linked {s} {q = q} {k = suc k} h c i =
    let e = ap (λ (x : Lent). x.tables) (refused-keeps q (lends s c.counts c.answer) c.promise (λ e. omega arith)) in
    record { stands = subst Stands (sym e) h; inside = tt; is = ap tables_in e; deposits = λ i. refl; payments = λ i. refl }
