-- Each request is a list of the rule's calls, empty where it was refused: from what the laws of the calls say of tables that hold a state.
use mathlib.Core.Path.{◌≡◌, refl, sym, ap, ◌∙◌}
use mathlib.Core.Logic.{◌≢◌}
use mathlib.Core.Bool.{Bool, true, false, cond}
use mathlib.Core.List.{List, [], ◌∷◌, ◌++◌}
use Prim.Native.Nat.{ℕ, ◌+◌, ◌-◌, ◌<◌}
use native.Mathlib.Omega.{arith}
use lib.Dec.{eqb}
use lib.IntN.{ℤ, pos, ◌+ℤ◌}
use lib.ListN.{length, get_or}
use Rattle.rule.specs.Kernel.{Counts, sum}
use Rattle.rule.specs.Payment.{word}
use Rattle.rule.specs.Day.{Call, deposit, submit, settle, only_for, Lived, done, next, payments, deposits as deposits_of}
use Rattle.rule.proofs.Ints.{plus-zero}
use Rattle.rule.proofs.Sums.{sum-zero, sum-cong, sum-only}
use Rattle.rule.proofs.Payments.{payer-word}
use Rattle.rule.proofs.Same.{same_refl}
use Rattle.tables.specs.Layout.{Tables, members_in, house_in, last_of, money_of}
use Rattle.tables.specs.Holds.{Holds}
use Rattle.booking.specs.Booking.{listed, booked_in}
use Rattle.booking.proofs.Kept.{Books, booked-count, booked-last, booked-house, booked-holds, booked-money}
use Rattle.opening.specs.Open.{open_act}
use Rattle.entry.specs.Deposit.{deposited_in, deposit_act}
use Rattle.entry.specs.Submit.{submitted_in, submit_act}
use Rattle.settling.specs.Release.{release_act, only_head}
use Rattle.settling.specs.Group.{book_act, group_act}
use Rattle.resolving.specs.Resolve.{resolve_act, largest_in}
use Rattle.answers.specs.Codes.{first, Judged}
use Rattle.answers.specs.Outcome.{Act, decided, held, judgement, called}
use Rattle.std.specs.Prelude.{Ok, Err}
use Rattle.answers.proofs.Outcomes.{judgement-fine}
use Rattle.entry.proofs.Judging.{Deposits, Submits, deposit-fine, submit-fine}
use Rattle.entry.proofs.Deposits.{deposits-hold, deposits-counters, deposits-call, deposits-money}
use Rattle.entry.proofs.Submits.{submits-hold, submits-accounts, submits-count, submits-accepts, submits-call, submits-last}
use Rattle.settling.proofs.Settles.{release-books, group-books}
use Rattle.resolving.proofs.Resolves.{largest-books}
use Rattle.days.specs.Days.{Request, opens, deposits, submits, releases, groups, resolves, after, accepted, did, GoesOn}

-- what calls that were accepted as cs carry from T to W: a state, the count, the house, the last numbers and the sum of balances
pub record Carried (T : Tables) (cs : List Call) (W : Tables) : Type 0 where
  pub stands : Holds W
  pub members : members_in W ≡ members_in T
  pub lived : Lived (members_in T) (house_in T) cs (house_in W)
  pub lasts : (i : ℕ) → i < members_in T → last_of W.counters i ≡ last_of T.counters i + length (payments cs i)
  pub money : money_of W.accounts ≡ money_of T.accounts +ℤ pos (sum (members_in T) (deposits_of cs))

-- ---- one call

no_more : (n : ℕ) (z : ℤ) → z ≡ z +ℤ pos (sum n (λ i. 0))
no_more n z = rw (sum-zero n) (sym (plus-zero z))

one-long : (b : Bool) (w : ℕ) → cond b 1 0 ≡ length (cond b (w ∷ []) [] ++ [])
one-long true w = refl
one-long false w = refl

module _ {T : Tables} (h : Holds T) where
  -- a refused call carries nothing,
  pub refused-carries : Carried T [] T
  refused-carries = record { stands = h; members = refl; lived = done same_refl; lasts = λ i q. omega arith; money = no_more (members_in T) (money_of T.accounts) }

  -- an accepted deposit is the rule's,
  pub deposit-carries : {m x : ℕ} → Deposits T m x → Carried T (deposit (m - 1) x ∷ []) (deposited_in T m x)
  deposit-carries {m} {x} d = record {
    stands = deposits-hold h d;
    members = ap (λ c. get_or c 0 0) (deposits-counters h d);
    lived = next tt (deposits-call h d) (done same_refl);
    lasts = λ i q. ap (λ c. last_of c i) (deposits-counters h d) ∙ omega arith;
    money = deposits-money h d ∙ ap (λ k. money_of T.accounts +ℤ pos k) (sym (
        sum-cong (members_in T) (λ i. only_for (m - 1) x i + 0) (only_for (m - 1) x) (λ i q. omega arith)
        ∙ sum-only (members_in T) (m - 1) x (omega (arith, d.one, d.within))
        ));
  }

  -- and so is an accepted submission
  pub submit-carries : {m n q x : ℕ} → Submits T m n q x → Carried T (submit (word (m - 1) (q - 1) x) ∷ []) (submitted_in T m n q x)
  submit-carries {m} {n} {q} {x} s = record {
    stands = submits-hold h s;
    members = submits-count h s;
    lived = next (submits-accepts h s) (submits-call h s) (done same_refl);
    lasts = λ i l.
        let p = payer-word (m - 1) (q - 1) x (omega (arith, s.one, s.within, h.counters.few)) (omega (arith, s.to, s.known, h.counters.few)) in
        submits-last h s i ∙ ap (λ k. last_of T.counters i + k) (rw p (one-long (eqb (m - 1) i) (word (m - 1) (q - 1) x)));
    money = ap money_of (submits-accounts h s) ∙ no_more (members_in T) (money_of T.accounts);
  }

  -- an accepted release, group or resolution is the booking of its set
  pub booking-carries : (z : Counts) → Books T z → Carried T (settle z ∷ []) (booked_in T z)
  booking-carries z b = record {
    stands = booked-holds h z b;
    members = booked-count h z;
    lived = next b.allowed (booked-house h z b) (done same_refl);
    lasts = λ i q. booked-last h z i (omega (arith, h.counters.few)) ∙ omega arith;
    money = booked-money h z ∙ no_more (members_in T) (money_of T.accounts);
  }

-- a call carries what it does where it is fine
act-carries : {A : Type 0} (k : Act A) {T : Tables} {cs : List Call} → Holds T → (first (k.tests T) ≡ Ok tt → Carried T cs (k.does T).after)
    → Carried T (accepted (judgement k T) cs) (called k T).after
unfolding called
act-carries k {T} {cs} h f = go (judgement k T) refl
  where
    go : (j : Judged) → judgement k T ≡ j → Carried T (accepted j cs) (decided k T j).after
    go (Ok u) e = f (judgement-fine k T e).1
    go (Err r) e = refused-carries h

-- a refused open carries nothing
open-carries : {A : Type 0} (k : Act A) {T : Tables} → Holds T → first (k.tests T) ≢ Ok tt → Carried T [] (held k T).after
unfolding held
open-carries k {T} h n = go (first (k.tests T)) n
  where
    go : (j : Judged) → j ≢ Ok tt → Carried T [] (decided k T j).after
    go (Ok u) m = absurd (m refl)
    go (Err r) m = refused-carries h

-- a request that was made on a state, and did not open again, is the calls of the rule that it did
pub link-carries : {T : Tables} → Holds T → (q : Request) → GoesOn q T → Carried T (did q T) (after q T)
unfolding deposit_act submit_act release_act group_act book_act resolve_act
link-carries h (opens n b l) g = open-carries (open_act n b l) h g
link-carries h (deposits m x) g = act-carries (deposit_act m x) h (λ e. deposit-carries h (deposit-fine e))
link-carries h (submits m n q x) g = act-carries (submit_act m n q x) h (λ e. submit-carries h (submit-fine e))
link-carries h (releases m) g = act-carries (release_act m) h (λ e. booking-carries h (only_head m) (release-books h m e))
link-carries h (groups k) g = act-carries (group_act k) h (λ e. booking-carries h (listed k) (group-books h k e))
link-carries {T} h (resolves k) g = act-carries (resolve_act k) h (λ e. booking-carries h (listed (largest_in T)) (largest-books h))
