-- A day of the house is a chain of steps over the bounds of cover, so the order of its calls does not count.
use mathlib.Core.Path.{◌≡◌, refl, sym, ◌∙◌}
use mathlib.Core.List.{List, [], ◌∷◌}
use Prim.Native.Nat.{ℕ, ◌+◌, ◌<◌}
use native.Mathlib.Omega.{arith}
use lib.IntN.{ℤ, pos, ◌+ℤ◌}
use lib.Signed.{◌≤ℤ◌}
use Rattle.rule.specs.Kernel.{Counts, sum}
use Rattle.rule.specs.Payment.{payer_of}
use Rattle.rule.specs.Queue.{just}
use Rattle.rule.specs.House.{House, booked, leeway, LargestSet, Sound, Same, Proper, money}
use Rattle.rule.specs.Day.{Call, deposit, submit, settle, only_for, call, Accepts, Lived, done, next, deposits, payments, Day, at_once}
use Rattle.rule.specs.Workings.Bounds.{Alike}
use Rattle.rule.specs.Workings.Chain.{Permitted, Step, rise, append, book, step, Leads, then, rises, appended, Concluded, arrived, gathered}
use Rattle.rule.specs.Workings.Cover.{terms, state}
use Rattle.rule.specs.Ints.{up, down}
use Rattle.rule.proofs.Ints.{plus, nonneg-is, nonneg_of, plus_assoc, plus-zero}
use Rattle.rule.proofs.Sums.{sum-add, sum-cong, sum-zero}
use Rattle.rule.proofs.Bounds.{alike-trans, alike-sym, ends_at, stands_alike}
use Rattle.rule.proofs.Chain.{order-free, end_is, end-largest}
use Rattle.rule.proofs.Cover.{allowed→in, largest→in, booked-state, booked-sound, alike→same}
use Rattle.rule.proofs.Queues.{outgoing-append, outgoing-drop, outgoing-just}
use Rattle.rule.proofs.Money.{money-booked, money-credited, money-same}

-- ---- the calls as steps

abbrev pub as_step : Call → Step ℕ
as_step (deposit j a) = rise (only_for j a)
as_step (submit w) = append (payer_of w) w
as_step (settle z) = book z

abbrev pub as-steps : List Call → List (Step ℕ)
as-steps [] = []
as-steps (c ∷ cs) = as_step c ∷ as-steps cs

rises-are : (cs : List Call) (i : ℕ) → rises (as-steps cs) i ≡ deposits cs i
rises-are [] i = refl
rises-are (deposit j a ∷ cs) i = rw (rises-are cs i)
rises-are (submit w ∷ cs) i = rises-are cs i
rises-are (settle z ∷ cs) i = rises-are cs i

appended-are : (cs : List Call) (i : ℕ) → appended (as-steps cs) i ≡ payments cs i
appended-are [] i = refl
appended-are (deposit j a ∷ cs) i = appended-are cs i
appended-are (submit w ∷ cs) i = rw (appended-are cs i)
appended-are (settle z ∷ cs) i = appended-are cs i

-- ---- one call

pub sound-same : {n : ℕ} {X Y : House} → Sound n X → Same n X Y → Sound n Y
sound-same ok s = record { covers = λ i h. rw (s.balances i h, s.lines i h) (ok.covers i h) }

pub same→alike : {n : ℕ} {X Y : House} → Same n X Y → Alike n terms (state X) (state Y)
same→alike s = record { rooms = λ i h. rw (s.balances i h, s.lines i h); queues = s.queues }

-- a deposit raises the room by as much
paid-room : (b l : ℤ) (d : ℕ) → pos 0 ≤ℤ (b +ℤ l) → (up (b +ℤ pos d +ℤ l) ≡ up (b +ℤ l) + d) × (down (b +ℤ pos d +ℤ l) ≡ 0)
paid-room b l d ok =
    let more : pos 0 ≤ℤ (b +ℤ pos d +ℤ l) = nonneg_of (b +ℤ pos d +ℤ l) (omega (arith, nonneg-is (b +ℤ l) ok, plus b l, plus b (pos d), plus (b +ℤ pos d) l)) in
    omega (arith, nonneg-is (b +ℤ l) ok, nonneg-is (b +ℤ pos d +ℤ l) more, plus b l, plus b (pos d), plus (b +ℤ pos d) l)

credited-covers : (b l : ℤ) (d : ℕ) → pos 0 ≤ℤ (b +ℤ l) → pos 0 ≤ℤ (b +ℤ pos d +ℤ l)
credited-covers b l d ok = let (r, e) = paid-room b l d ok in nonneg_of (b +ℤ pos d +ℤ l) (omega arith)

-- a call keeps a house sound, and is its step
call-sound : {n : ℕ} {X : House} (c : Call) → Sound n X → Accepts n X c → Sound n (call n X c)
call-sound {X} (deposit j a) ok p = record { covers = λ i h. credited-covers (X.balance i) (leeway X i) (only_for j a i) (ok.covers i h) }
call-sound (submit w) ok p = record { covers = ok.covers }
call-sound (settle z) ok p = booked-sound p

call_step : {n : ℕ} {X : House} (c : Call) → Sound n X → Accepts n X c → Alike n terms (step n terms (state X) (as_step c)) (state (call n X c))
call_step {X} (deposit j a) ok p = record { rooms = λ i h. (paid-room (X.balance i) (leeway X i) (only_for j a i) (ok.covers i h)).0; queues = λ i h. refl }
call_step (submit w) ok p = record { rooms = λ i h. refl; queues = λ i h. refl }
call_step (settle z) ok p = booked-state ok p

call-lines : (n : ℕ) (X : House) (c : Call) (i : ℕ) → (call n X c).line i ≡ X.line i
call-lines n X (deposit j a) i = refl
call-lines n X (submit w) i = refl
call-lines n X (settle z) i = refl

call-permitted : {n : ℕ} {X : House} (c : Call) → Sound n X → Accepts n X c → Permitted n terms (state X) (as_step c)
call-permitted (deposit j a) ok p = tt
call-permitted (submit w) ok p = tt
call-permitted (settle z) ok p = allowed→in ok p

-- ---- a day

pub record Carried (n : ℕ) (X : House) (cs : List Call) (Z : House) : Type 0 where
  pub sound : Sound n Z
  pub lines : (i : ℕ) → i < n → Z.line i ≡ X.line i
  pub leads : Leads n terms (state X) (as-steps cs) (state Z)

pub carried : {n : ℕ} {X Z : House} {cs : List Call} → Sound n X → Lived n X cs Z → Carried n X cs Z
carried ok (done s) = record { sound = sound-same ok s; lines = s.lines; leads = arrived (same→alike s) }
carried {n} {X} ok (next {Y = Y} {c = c} p s l) =
    let r = carried (sound-same (call-sound c ok p) s) l in
    record {
      sound = r.sound;
      lines = λ i h. r.lines i h ∙ s.lines i h ∙ call-lines n X c i;
      leads = then (call-permitted c ok p) (alike-trans (call_step c ok p) (same→alike s)) r.leads;
    }

module _ {n : ℕ} {O E : House} {cs : List Call} (day : Day n O cs E) where
  kept : Carried n O cs day.eve
  kept = carried day.sound day.lived

  pub day-sound : Sound n E
  day-sound = sound-same (booked-sound day.last.allowed) day.ends

  pub day-lines : (i : ℕ) → i < n → E.line i ≡ O.line i
  day-lines i h = day.ends.lines i h ∙ kept.lines i h

  pub day-resolved : Concluded n terms (state O) (as-steps cs) (state E)
  day-resolved = record {
    eve = state day.eve;
    leads = kept.leads;
    counts = day.counts;
    last = largest→in kept.sound day.last;
    ends = alike-trans (booked-state kept.sound day.last.allowed) (same→alike day.ends);
  }

-- ---- the end of a day is that of its deposits and payments taken at once

module _ {n : ℕ} {O : House} (ok : Sound n O) (cs : List Call) where
  gathered-state : Alike n terms (gathered (state O) (as-steps cs)) (state (at_once O cs))
  gathered-state = record {
    rooms = λ i h. (paid-room (O.balance i) (leeway O i) (deposits cs i) (ok.covers i h)).0 ∙ rw (← rises-are cs i);
    queues = λ i h. rw (appended-are cs i);
  }

  pub at-once-sound : Sound n (at_once O cs)
  at-once-sound = record {
    covers = λ i h. credited-covers (O.balance i) (leeway O i) (deposits cs i) (ok.covers i h);
  }

-- wherever its releases, groups and resolutions fell, a day ends as if the largest allowed set of all deposits and payments were booked
pub day-end : {n : ℕ} {O E : House} {cs : List Call} {z : Counts} → Day n O cs E → LargestSet n (at_once O cs) z → Same n (booked n (at_once O cs) z) E
day-end {n} {O} {E} {cs} {z} day l =
    alike→same (booked-sound l.allowed) (day-sound day) (λ i h. day-lines day i h)
    (alike-trans (alike-sym (booked-state ok l.allowed))
    (alike-trans (alike-sym (ends_at (stands_alike (gathered-state day.sound cs)) (end-largest chain) (largest→in ok l)))
    (end_is chain (end-largest chain))))
  where
    ok : Sound n (at_once O cs)
    ok = at-once-sound day.sound cs

    chain : Concluded n terms (state O) (as-steps cs) (state E)
    chain = day-resolved day

-- two days from like states, with the same deposits for each member and the same payments of each payer in order, end alike
pub days-alike : {n : ℕ} {O P E D : House} {cs ds : List Call} → Day n O cs E → Day n P ds D → Same n O P
    → ((i : ℕ) → i < n → deposits ds i ≡ deposits cs i) → ((i : ℕ) → i < n → payments ds i ≡ payments cs i) → Same n E D
days-alike {cs} {ds} day yad first d s = alike→same (day-sound day) (day-sound yad)
    (λ i h. day-lines yad i h ∙ first.lines i h ∙ sym (day-lines day i h))
    (order-free (day-resolved day) (day-resolved yad) (same→alike first)
    (λ i h. rises-are ds i ∙ d i h ∙ sym (rises-are cs i))
    (λ i h. appended-are ds i ∙ s i h ∙ sym (appended-are cs i)))

-- ---- the sum of balances over a day

-- the payments of a day go to other members,
call-outgoing : {n : ℕ} {X : House} (c : Call) → Proper n X → Accepts n X c → Proper n (call n X c)
call-outgoing (deposit j a) o p = record { outgoing = o.outgoing }
call-outgoing {n} {X} (submit w) o p = record {
  outgoing = λ i h. outgoing-append (X.queue i) (just (payer_of w) w i) (o.outgoing i h) (outgoing-just (payer_of w) w p.0 p.1);
}
call-outgoing {X = X} (settle z) o p = record { outgoing = λ i h. outgoing-drop (z i) (X.queue i) (o.outgoing i h) }

proper-same : {n : ℕ} {X Y : House} → Proper n X → Same n X Y → Proper n Y
proper-same o s = record { outgoing = λ i h. rw (s.queues i h) (o.outgoing i h) }

-- so a call raises the sum by what it deposits
deposited : ℕ → Call → ℕ
deposited n c = sum n (deposits (c ∷ []))

call-money : (n : ℕ) (X : House) (c : Call) → Proper n X → money n (call n X c).balance ≡ money n X.balance +ℤ pos (deposited n c)
unfolding deposited
call-money n X (deposit j a) o = money-credited n X (only_for j a) ∙ rw (sum-cong n (only_for j a) (λ i. only_for j a i + 0) (λ i h. omega arith))
call-money n X (submit w) o = rw (sum-zero n) (sym (plus-zero (money n X.balance)))
call-money n X (settle z) o = money-booked n X z o ∙ rw (sum-zero n) (sym (plus-zero (money n X.balance)))

deposits-next : (n : ℕ) (c : Call) (cs : List Call) → sum n (deposits (c ∷ cs)) ≡ deposited n c + sum n (deposits cs)
unfolding deposited
deposits-next n (deposit j a) cs = sum-add n (only_for j a) (deposits cs) ∙ rw (sum-cong n (only_for j a) (λ i. only_for j a i + 0) (λ i h. omega arith))
deposits-next n (submit w) cs = omega (arith, sum-zero n)
deposits-next n (settle z) cs = omega (arith, sum-zero n)

-- and after any calls the sum of balances is the first sum and all that was deposited
pub lived-money : {n : ℕ} {X Z : House} {cs : List Call} → Proper n X → Lived n X cs Z
    → money n Z.balance ≡ money n X.balance +ℤ pos (sum n (deposits cs))
lived-money {n} {X} {Z} o (done s) = money-same n X.balance Z.balance s.balances ∙ rw (sum-zero n) (sym (plus-zero (money n X.balance)))
lived-money {n} {X} {Z} o (next {Y = Y} {c = c} {cs = cs} p s l) =
    lived-money (proper-same (call-outgoing c o p) s) l
    ∙ rw (money-same n (call n X c).balance Y.balance s.balances, call-money n X c o, deposits-next n c cs)
    (plus_assoc (money n X.balance) (deposited n c) (sum n (deposits cs)))
