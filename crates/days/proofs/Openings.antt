-- Demand 3 for whole days: tables on which the same opening was accepted hold equal houses, so that days that begin so end alike.
use mathlib.Core.Path.{◌≡◌, sym, ap, ◌∙◌, subst}
use mathlib.Core.List.{List}
use Prim.Native.Nat.{ℕ, ◌<◌}
use native.Mathlib.Omega.{arith}
use lib.IntN.{ℤ}
use Rattle.rule.specs.Ints.{up}
use Rattle.rule.specs.Kernel.{Counts}
use Rattle.rule.specs.House.{LargestSet, Same, booked, money}
use Rattle.rule.specs.Day.{Day, deposits, payments, at_once}
use Rattle.rule.proofs.Same.{same-sym, same-trans}
use Rattle.rule.proofs.Day.{sound-same, at-once-sound}
use Rattle.rule.proofs.Demands.{as-at-once, largest-exists}
use Rattle.tables.specs.Sizes.{members}
use Rattle.tables.specs.Layout.{Tables, members_in, house_in, last_of, money_of}
use Rattle.tables.specs.Holds.{Holds}
use Rattle.answers.specs.Codes.{first}
use Rattle.answers.specs.Outcome.{Outcome, outcome, held}
use Rattle.std.specs.Prelude.{Ok, Result}
use Rattle.answers.specs.declared.Refusal.{Refusal}
use Rattle.answers.proofs.Outcomes.{held-fine, done-fine}
use Rattle.opening.specs.Open.{entry, opened_in, open_act}
use Rattle.opening.proofs.Judging.{Opens, open-fine}
use Rattle.opening.proofs.Opens.{opens-count, opens-queue, opens-last, opens-balance, opens-line, opens-money, opens-hold}
use Rattle.days.specs.Days.{Request, made, Ended, opening_of, Begun, queue_in, Equal}
use Rattle.days.proofs.Joins.{lived-from}
use Rattle.days.proofs.Demand3.{ended-stands, ended-members, ended-day, equal-queues, ends-equal}

-- ---- one opening

module _ {n : ℕ} {b l : List ℤ} {T : Tables} (o : Begun n b l T) where
  judged : first ((open_act n b l).tests o.before) ≡ Ok tt
  unfolding held open_act
  judged =
      done-fine (open_act n b l) o.before (first ((open_act n b l).tests o.before)) (outcome (Ok o.sum) T)
      (λ r e. let z : ◌≡◌ {A = ℕ} 0 1 = cc in omega arith) o.promise

  fine : Opens o.before n b l
  fine = open-fine judged

  begun-is : T ≡ opened_in o.before n b l
  unfolding open_act
  begun-is = ap (λ (u : Outcome (Result ℤ Refusal)). u.after) (sym o.promise ∙ held-fine (open_act n b l) o.before judged)

  -- it leaves a state,
  pub begun-stands : Holds T
  begun-stands = rw begun-is (opens-hold fine)

  -- of n members,
  pub begun-members : members_in T ≡ n
  begun-members = rw begun-is (opens-count fine)

  -- with these balances and lines and no payment waiting,
  pub begun-house : Same n (opening_of b l) (house_in T)
  begun-house = rw begun-is (record {
    lines = λ i q. ap up (opens-line fine i q);
    balances = opens-balance fine;
    queues = λ i q. opens-queue fine i;
  })

  -- no number given,
  pub begun-last : (i : ℕ) → i < members → last_of T.counters i ≡ 0
  begun-last i q = rw begun-is (opens-last fine i q)

  -- and the sum of these balances
  pub begun-money : money_of T.accounts ≡ money n (entry b)
  begun-money = rw begun-is (opens-money fine)

  -- a day that begins so is one of the rule, from the opening itself,
  pub begun-day : {W : Tables} {qs : List Request} (d : Ended T qs W) → Day n (opening_of b l) (made qs T) (house_in W)
  begun-day {W} {qs} d =
      let y : Day n (house_in T) (made qs T) (house_in W) = subst (λ k. Day k (house_in T) (made qs T) (house_in W)) begun-members (ended-day begun-stands d) in
      record {
        sound = sound-same y.sound (same-sym begun-house);
        eve = y.eve;
        lived = lived-from begun-house y.lived;
        counts = y.counts;
        last = y.last;
        ends = y.ends;
      }

  -- and ends as rule 2 says for the opening balances, all deposits and all payments taken at once, whichever largest set is booked,
  pub day-ends-as-largest : {W : Tables} {qs : List Request} (d : Ended T qs W) {z : Counts} → LargestSet n (at_once (opening_of b l) (made qs T)) z
      → Same n (booked n (at_once (opening_of b l) (made qs T)) z) (house_in W)
  day-ends-as-largest d = as-at-once (begun-day d)

  -- and there is one
  pub day-ends-as-at-once : {W : Tables} {qs : List Request} (d : Ended T qs W)
      → (z : Counts) × (LargestSet n (at_once (opening_of b l) (made qs T)) z) × (Same n (booked n (at_once (opening_of b l) (made qs T)) z) (house_in W))
  day-ends-as-at-once {qs = qs} d =
      let z = largest-exists (at-once-sound (begun-day d).sound (made qs T)) in
      (z.0, z.1, day-ends-as-largest d z.1)

-- ---- two of them

-- after the same opening, on whatever tables, the houses are equal
pub begun-equal : {n : ℕ} {b l : List ℤ} {T U : Tables} → Begun n b l T → Begun n b l U → Equal T U
begun-equal {T} {U} o r = record {
  members = begun-members r ∙ sym (begun-members o);
  same = subst (λ k. Same k (house_in T) (house_in U)) (sym (begun-members o)) (same-trans (same-sym (begun-house o)) (begun-house r));
  lasts = λ i q. let s : i < members = omega (arith, (begun-stands o).counters.few) in begun-last r i s ∙ sym (begun-last o i s);
}

module _ {n : ℕ} {b l : List ℤ} {T U W X : Tables} {qs rs : List Request} (o : Begun n b l T) (r : Begun n b l U) (d : Ended T qs W) (e : Ended U rs X)
    (paid-in : (i : ℕ) → i < n → deposits (made rs U) i ≡ deposits (made qs T) i)
    (paid : (i : ℕ) → i < n → payments (made rs U) i ≡ payments (made qs T) i) where
  -- days that open alike, with equal deposit totals for each member and the same payments in the same order for each payer, each ending
  -- in an accepted resolution, end with equal balances,
  pub days-end-equal : Equal W X
  days-end-equal =
      ends-equal (begun-stands o) (begun-stands r) (begun-equal o r) d e
      (λ i q. paid-in i (omega (arith, begun-members o))) (λ i q. paid i (omega (arith, begun-members o)))

  -- and equal queues: payer, number, payee and amount of each payment
  pub days-end-queues : (i : ℕ) → i < n → queue_in W i ≡ queue_in X i
  days-end-queues i q =
      equal-queues (ended-stands (begun-stands o) d) (ended-stands (begun-stands r) e) days-end-equal i
      (omega (arith, ended-members (begun-stands o) d, begun-members o))
