-- Each call keeps the least lengths of the lists, and the last numbers within 32 bits: what it leaves can be stored, and is read back.
use mathlib.Core.Path.{◌≡◌, refl, ap, ◌∙◌}
use mathlib.Core.Bool.{Bool, true, false}
use mathlib.Core.List.{List}
use Prim.Native.Nat.{ℕ, ◌-◌, ◌≤◌, ◌<◌}
use native.Mathlib.Omega.{arith}
use lib.Dec.{eqb}
use lib.IntN.{ℤ}
use lib.ListN.{length-set}
use borrow.Author.Tests.{eqb-true}
use Rattle.rule.specs.Kernel.{Counts}
use Rattle.rule.proofs.Lists.{fill-length}
use Rattle.tables.specs.Sizes.{members, places, table, last_number}
use Rattle.tables.specs.Layout.{Tables, last_of}
use Rattle.tables.specs.Holds.{Holds}
use Rattle.booking.specs.Booking.{booked_in}
use Rattle.booking.proofs.Reading.{accounts-length, counters-length, places-length}
use Rattle.booking.proofs.Kept.{booked-last}
use Rattle.answers.specs.Codes.{first}
use Rattle.answers.specs.Outcome.{Act, held, judgement, called}
use Rattle.std.specs.Prelude.{Ok}
use Rattle.answers.proofs.Outcomes.{judgement-fine, decided-keeps}
use Rattle.opening.specs.Open.{opened_in, open_act}
use Rattle.opening.proofs.Judging.{Opens, open-fine}
use Rattle.opening.proofs.Opens.{opens-last, opens-hold}
use Rattle.entry.specs.Deposit.{deposited_in, deposit_act}
use Rattle.entry.specs.Submit.{submitted_in, submit_act}
use Rattle.entry.proofs.Judging.{Submits, submit-fine}
use Rattle.entry.proofs.Submits.{submits-last}
use Rattle.settling.specs.Release.{release_act}
use Rattle.settling.specs.Group.{book_act, group_act}
use Rattle.resolving.specs.Resolve.{resolve_act}
use Rattle.lent.specs.Stands.{Least, Kept}
use Rattle.days.specs.Days.{Request, opens, deposits, submits, releases, groups, resolves, after, GoesOn}
use Rattle.days.proofs.Links.{link-carries}

-- the last numbers fit
record Lasts (T : Tables) : Type 0 where
  pub each : (i : ℕ) → i < members → last_of T.counters i ≤ last_number

-- ---- the lengths of what is done

pub opened-least : {T : Tables} (n : ℕ) (b l : List ℤ) → Least T → Least (opened_in T n b l)
unfolding opened_in
opened-least n b l m = record {
  accounts = fill-length _ _ table (omega (arith, m.accounts)) ∙ m.accounts;
  counters = fill-length _ _ table (omega (arith, m.counters)) ∙ m.counters;
  pays = fill-length _ _ places (omega (arith, m.pays)) ∙ m.pays;
}

deposited-least : {T : Tables} (m x : ℕ) → Least T → Least (deposited_in T m x)
unfolding deposited_in
deposited-least m x l = record { accounts = simp length-set l.accounts; counters = l.counters; pays = l.pays }

submitted-least : {T : Tables} (m n q x : ℕ) → Least T → Least (submitted_in T m n q x)
unfolding submitted_in
submitted-least m n q x l = record { accounts = l.accounts; counters = simp length-set l.counters; pays = simp length-set l.pays }

booked-least : {T : Tables} (z : Counts) → Holds T → Least T → Least (booked_in T z)
booked-least z h l = record { accounts = accounts-length h z ∙ l.accounts; counters = counters-length h z ∙ l.counters; pays = places-length h z ∙ l.pays }

-- ---- and its last numbers

deposited-lasts : {T : Tables} (m x : ℕ) → Lasts T → Lasts (deposited_in T m x)
unfolding deposited_in
deposited-lasts m x l = record { each = l.each }

submitted-lasts : {T : Tables} {m n q x : ℕ} → Holds T → Submits T m n q x → Lasts T → Lasts (submitted_in T m n q x)
submitted-lasts {T} {m} {n} {q} {x} h s z = record { each = λ i l. go i l (eqb (m - 1) i) refl }
  where
    go : (i : ℕ) → i < members → (b : Bool) → eqb (m - 1) i ≡ b → last_of (submitted_in T m n q x).counters i ≤ last_number
    go i l true e =
        let f : last_of T.counters (m - 1) ≡ last_of T.counters i = ap (last_of T.counters) (eqb-true (m - 1) i e) in
        rw (submits-last h s i, e) (omega (arith, s.next, s.fits))
    go i l false e = rw (submits-last h s i, e) (omega (arith, z.each i l))

booked-lasts : {T : Tables} (z : Counts) → Holds T → Lasts T → Lasts (booked_in T z)
booked-lasts z h s = record { each = λ i l. rw (booked-last h z i l) (s.each i l) }

opened-lasts : {T : Tables} {n : ℕ} {b l : List ℤ} → Opens T n b l → Lasts (opened_in T n b l)
opened-lasts o = record { each = λ i q. rw (opens-last o i q) (omega arith) }

-- ---- after a call

open-keeps : {A : Type 0} (P : Tables → Type 0) (k : Act A) {T : Tables} → P T → (first (k.tests T) ≡ Ok tt → P (k.does T).after) → P (held k T).after
unfolding held
open-keeps P k {T} p f = decided-keeps k T P (first (k.tests T)) p f

act-keeps : {A : Type 0} (P : Tables → Type 0) (k : Act A) {T : Tables} → P T → (Holds T → first (k.tests T) ≡ Ok tt → P (k.does T).after) → P (called k T).after
unfolding called
act-keeps P k {T} p f = decided-keeps k T P (judgement k T) p (λ e. let g = judgement-fine k T e in f g.0 g.1)

pub after-least : {T : Tables} → Least T → (q : Request) → Least (after q T)
unfolding open_act deposit_act submit_act release_act group_act book_act resolve_act
after-least l (opens n b v) = open-keeps Least (open_act n b v) l (λ e. opened-least n b v l)
after-least l (deposits m x) = act-keeps Least (deposit_act m x) l (λ h e. deposited-least m x l)
after-least l (submits m n q x) = act-keeps Least (submit_act m n q x) l (λ h e. submitted-least m n q x l)
after-least l (releases m) = act-keeps Least (release_act m) l (λ h e. booked-least _ h l)
after-least l (groups k) = act-keeps Least (group_act k) l (λ h e. booked-least _ h l)
after-least l (resolves k) = act-keeps Least (resolve_act k) l (λ h e. booked-least _ h l)

after-lasts : {T : Tables} → Lasts T → (q : Request) → Lasts (after q T)
unfolding open_act deposit_act submit_act release_act group_act book_act resolve_act
after-lasts l (opens n b v) = open-keeps Lasts (open_act n b v) l (λ e. opened-lasts (open-fine e))
after-lasts l (deposits m x) = act-keeps Lasts (deposit_act m x) l (λ h e. deposited-lasts m x l)
after-lasts l (submits m n q x) = act-keeps Lasts (submit_act m n q x) l (λ h e. submitted-lasts h (submit-fine e) l)
after-lasts l (releases m) = act-keeps Lasts (release_act m) l (λ h e. booked-lasts _ h l)
after-lasts l (groups k) = act-keeps Lasts (group_act k) l (λ h e. booked-lasts _ h l)
after-lasts l (resolves k) = act-keeps Lasts (resolve_act k) l (λ h e. booked-lasts _ h l)

-- a request inside a day leaves what can be stored,
pub kept-after : {T : Tables} → Kept T → (q : Request) → GoesOn q T → Kept (after q T)
kept-after k q g = record { holds = (link-carries k.holds q g).stands; least = after-least k.least q; lasts = (after-lasts (record { each = k.lasts }) q).each }

-- and so does an open that was accepted
pub kept-opened : {T : Tables} {n : ℕ} {b l : List ℤ} → Least T → Opens T n b l → Kept (opened_in T n b l)
kept-opened {n = n} {b} {l} m o = record { holds = opens-hold o; least = opened-least n b l m; lasts = (opened-lasts o).each }
