-- What is said of a call is within the ranges of its line, and an accepted call leaves a state.
use mathlib.Core.Path.{◌≡◌, refl}
use mathlib.Core.List.{List}
use Prim.Native.Nat.{ℕ, ◌+◌, ◌-◌, ◌≤◌, ◌<◌, ◌^◌}
use native.Mathlib.Omega.{arith}
use lib.IntN.{ℤ, pos, negsuc, nat_abs, ◌+ℤ◌}
use lib.ListN.{get_or}
use Rattle.rule.specs.Ints.{up, down}
use Rattle.rule.specs.Verdict.{verdict}
use Rattle.rule.proofs.Ints.{plus, ≤ℤ-is}
use Rattle.sets.specs.Sets.{size_of, lowest_of}
use Rattle.tables.specs.Sizes.{members, most_amount, most_line, most, last_number}
use Rattle.tables.specs.Layout.{settled_at, Tables, members_in, house_in, balance_of, money_of}
use Rattle.tables.specs.Holds.{Accounts, Holds}
use Rattle.tables.proofs.Balances.{accounts-low, accounts-near, balance-high}
use Rattle.booking.specs.Booking.{listed}
use Rattle.booking.proofs.Kept.{booked-holds}
use Rattle.answers.specs.Codes.{code_of, first, Judged}
use Rattle.answers.specs.Outcome.{Act, Outcome, decided, held}
use Rattle.answers.specs.declared.Refusal.{Refusal}
use Rattle.answers.specs.declared.Refusal.TheVariants as R
use Rattle.std.specs.Prelude.{Ok, Err}
use Rattle.entry.specs.Deposit.{deposit_act}
use Rattle.entry.specs.Submit.{submit_act}
use Rattle.entry.proofs.Judging.{Deposits, Submits, deposit-fine, submit-fine}
use Rattle.entry.proofs.Deposits.{deposits-hold}
use Rattle.entry.proofs.Submits.{submits-hold}
use Rattle.settling.specs.Release.{release_act, only_head}
use Rattle.settling.specs.Group.{book_act, group_act}
use Rattle.settling.proofs.Settles.{group-books, release-books}
use Rattle.resolving.specs.Resolve.{largest_in, still_waits}
use Rattle.resolving.proofs.Resolves.{largest-books}
use Rattle.dayfile.specs.Entries.{DayLine, pay, deposit, release, group, resolve}
use Rattle.sheet.specs.declared.Says.{Says}
use Rattle.sheet.specs.Room.{Ranges}
use Rattle.daylines.specs.Calls.{refusal, saying, pay_says, pay_does, deposit_says, deposit_does, release_says, release_does, group_says, group_does, resolve_does}
use Rattle.daylines.specs.Calls.{call_does}
use Rattle.daylines.proofs.Amounts.{queued-small, counts-few, sum-small, Heads, release-heads, verdict-small, size_small, lowest-small}

-- ---- numbers in their ranges

pub code-small : (r : Refusal) → code_of r < 10 ^ 2
code-small R.State = omega arith
code-small R.Member = omega arith
code-small R.Same = omega arith
code-small R.Amount = omega arith
code-small R.Number = omega arith
code-small R.Full = omega arith
code-small R.Money = omega arith
code-small R.Nothing = omega arith
code-small R.Cover = omega arith
code-small R.Counts = omega arith
code-small R.Opening = omega arith
code-small R.Line = omega arith
code-small R.Room = omega arith

abs-small : (z : ℤ) → up z < 10 ^ 16 + down z → down z < 10 ^ 16 + up z → nat_abs z < 10 ^ 16
abs-small (pos n) u d = omega arith
abs-small (negsuc n) u d = omega arith

module _ {n : ℕ} {a : List ℤ} (h : Accounts n a) where
  -- a balance of a state, and the sum of all
  pub balance-small : (i : ℕ) → i < members → nat_abs (balance_of a i) < 10 ^ 16
  balance-small i l = let n = accounts-near h i l in abs-small (balance_of a i) (omega (arith, n.above)) (omega (arith, n.below))

  pub money-small : nat_abs (money_of a) < 10 ^ 16
  money-small =
      let s = ≤ℤ-is (money_of a) (pos most) h.sum in
      let z : 0 < members = omega arith in
      let l = accounts-low h 0 z in
      abs-small (money_of a) (omega arith) (omega (arith, balance-high most_line (balance_of a) members 0 z (accounts-low h)))

  deposit-small : (i x : ℕ) → i < members → x ≤ most_amount → nat_abs (balance_of a i +ℤ pos x) < 10 ^ 16
  deposit-small i x l q =
      let n = accounts-near h i l in
      abs-small (balance_of a i +ℤ pos x) (omega (arith, n.above, n.below, plus (balance_of a i) (pos x)))
      (omega (arith, n.above, n.below, plus (balance_of a i) (pos x)))

-- ---- what a call leaves, and what is said of it

pub record Kept (u : Outcome Says) : Type 0 where
  pub holds : Holds u.after
  pub ranges : Ranges u.answer

module _ (n : ℕ) (few : n < 10 ^ 7) (t : Tables) (h : Holds t) (narrow : (i : ℕ) → get_or t.counters i 0 ≤ last_number) where
  -- a call's line, where it is kept if the request is fine
  act-kept : {A : Type 0} (k : Act A) (say : A → Says) → ((r : Refusal) → say (k.refuse r) ≡ refusal n r)
      → (first (k.tests t) ≡ Ok tt → Kept (saying say (k.does t)))
      → Kept (saying say (held k t))
  unfolding held
  act-kept k say told f = go (first (k.tests t)) refl
    where
      go : (j : Judged) → first (k.tests t) ≡ j → Kept (saying say (decided k t j))
      go (Ok u) e = f e
      go (Err r) e = record { holds = h; ranges = rw (told r) (few, code-small r) }

  pay-kept : (m k q x : ℕ) → Kept (pay_does n t m k q x)
  unfolding submit_act
  pay-kept m k q x = act-kept (submit_act m k q x) (pay_says n m k) (λ r. refl) (λ e.
      let d : Submits t m k q x = submit-fine e in
      record { holds = submits-hold h d; ranges = (few, omega (arith, d.within, h.counters.few), omega (arith, d.fits)) })

  deposit-kept : (m x : ℕ) → Kept (deposit_does n t m x)
  unfolding deposit_act
  deposit-kept m x = act-kept (deposit_act m x) (deposit_says n m) (λ r. refl) (λ e.
      let d : Deposits t m x = deposit-fine e in
      let i : m - 1 < members = omega (arith, d.one, d.within, h.counters.few) in
      record { holds = deposits-hold h d; ranges = (few, omega (arith, d.within, h.counters.few), deposit-small h.accounts (m - 1) x i d.small) })

  release-kept : (m : ℕ) → Kept (release_does n t m)
  unfolding release_act
  release-kept m = act-kept (release_act m) (release_says n) (λ r. refl) (λ e.
      let d : Heads t m = release-heads e in
      let w : m < 10 ^ 2 = omega (arith, d.within, h.counters.few) in
      let q = queued-small h (m - 1) 0 d.waiting in
      record { holds = booked-holds h (only_head m) (release-books h m e); ranges = (few, w, omega (arith, narrow (settled_at + (m - 1))), omega (arith, q)) })

  group-kept : (k : List ℕ) → Kept (group_does n t k)
  unfolding group_act book_act
  group-kept k = act-kept (group_act k) (group_says n) (λ r. refl) (λ e.
      let b = group-books h k e in
      let w = b.allowed.within in
      record { holds = booked-holds h (listed k) b; ranges = (few, omega (arith, counts-few h (listed k) w), omega (arith, sum-small h (listed k) w)) })

  resolve-kept : Kept (resolve_does n t)
  resolve-kept =
      let b = largest-books h in
      let z = listed (largest_in t) in
      let w = b.allowed.within in
      let still = still_waits (house_in t) z in
      let v : verdict (members_in t) (house_in t) z < 10 ^ 2 = omega (arith, verdict-small (members_in t) (house_in t) z) in
      let m : size_of (members_in t) still < 10 ^ 2 = omega (arith, size_small still (members_in t), h.counters.few) in
      let l : lowest_of (members_in t) still < 10 ^ 2 = omega (arith, lowest-small still (members_in t), h.counters.few) in
      record { holds = booked-holds h z b; ranges = (few, v, omega (arith, counts-few h z w), omega (arith, sum-small h z w), m, l) }

  pub call_kept : (d : DayLine) → Kept (call_does n t d)
  call_kept (pay kind m k q x) = pay-kept m k q x
  call_kept (deposit m x) = deposit-kept m x
  call_kept (release m) = release-kept m
  call_kept (group k) = group-kept k
  call_kept resolve = resolve-kept
