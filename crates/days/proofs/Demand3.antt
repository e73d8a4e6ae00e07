-- Demand 3 over the real tables: a stretch that ends in a resolution is a day of the rule, so that when the key is pressed favours no bank.
use mathlib.Core.Path.{◌≡◌, sym, ap, ◌∙◌, subst}
use mathlib.Core.Logic.{◌≢◌}
use mathlib.Core.List.{List}
use Prim.Native.Nat.{ℕ, ◌+◌, ◌<◌}
use native.Mathlib.Omega.{arith}
use lib.ListN.{length}
use Rattle.rule.specs.Kernel.{Counts}
use Rattle.rule.specs.House.{LargestSet, Same, booked}
use Rattle.rule.specs.Day.{Day, deposits, payments, at_once}
use Rattle.rule.proofs.Demands.{no-bank-favoured, as-at-once, largest-exists}
use Rattle.rule.proofs.Day.{at-once-sound}
use Rattle.tables.specs.Sizes.{members}
use Rattle.tables.specs.Layout.{Tables, members_in, house_in, last_of, settled_of}
use Rattle.tables.specs.Holds.{Holds}
use Rattle.tables.proofs.Houses.{holds-sound}
use Rattle.booking.specs.Booking.{listed, booked_in}
use Rattle.booking.proofs.Kept.{Books, booked-count, booked-last, booked-house, booked-holds}
use Rattle.answers.specs.Outcome.{Outcome, outcome, decided, judgement, called}
use Rattle.std.specs.Prelude.{Ok, Err, Result}
use Rattle.answers.specs.declared.Resolution.{Resolution}
use Rattle.answers.specs.declared.Refusal.{Refusal}
use Rattle.answers.proofs.Outcomes.{done-fine}
use Rattle.resolving.specs.Resolve.{resolve_act, largest_in}
use Rattle.resolving.proofs.Resolves.{largest-is, largest-books}
use Rattle.days.specs.Days.{Request, after_all, made, Ended, queue_in, Equal}
use Rattle.days.proofs.Links.{Carried}
use Rattle.days.proofs.Chains.{chain-carries}

-- what a resolution tells is no refusal
done-apart : {x : Resolution} {k l : List ℕ} (r : Refusal) → ◌≢◌ {A = Result Resolution Refusal × List ℕ} (Ok x, l) (Err r, k)
done-apart {x} r e = let f : Ok x ≡ Err r = ap (λ (p : Result Resolution Refusal × List ℕ). p.0) e in let z : ◌≡◌ {A = ℕ} 0 1 = cc in omega arith

-- ---- one stretch

module _ {T W : Tables} {qs : List Request} (h : Holds T) (d : Ended T qs W) where
  eve : Carried T (made qs T) (after_all qs T)
  eve = chain-carries h qs d.inside

  -- the last booked the largest set of the eve,
  ended_is : W ≡ booked_in (after_all qs T) (listed (largest_in (after_all qs T)))
  unfolding called resolve_act
  ended_is =
      let k = resolve_act d.given in
      let f = done-fine k (after_all qs T) (judgement k (after_all qs T)) (outcome (Ok d.resolution, d.told) W) done-apart d.last in
      ap (λ (u : Outcome (Result Resolution Refusal × List ℕ)). u.after) (sym d.last ∙ ap (decided k (after_all qs T)) f)

  books : Books (after_all qs T) (listed (largest_in (after_all qs T)))
  books = largest-books eve.stands

  -- so it ends in a state,
  pub ended-stands : Holds W
  ended-stands = rw ended_is (booked-holds eve.stands (listed (largest_in (after_all qs T))) books)

  -- of as many members,
  pub ended-members : members_in W ≡ members_in T
  ended-members = rw ended_is (booked-count eve.stands (listed (largest_in (after_all qs T))) ∙ eve.members)

  -- with as many more numbers as payments,
  pub ended-lasts : (i : ℕ) → i < members_in T → last_of W.counters i ≡ last_of T.counters i + length (payments (made qs T) i)
  ended-lasts i q = rw ended_is (booked-last eve.stands (listed (largest_in (after_all qs T))) i (omega (arith, h.counters.few)) ∙ eve.lasts i q)

  -- and it is a day of the rule
  pub ended-day : Day (members_in T) (house_in T) (made qs T) (house_in W)
  ended-day = record {
    sound = holds-sound h;
    eve = house_in (after_all qs T);
    lived = eve.lived;
    counts = listed (largest_in (after_all qs T));
    last = subst (λ n. LargestSet n (house_in (after_all qs T)) (listed (largest_in (after_all qs T)))) eve.members (largest-is eve.stands);
    ends = subst (λ n. Same n (booked n (house_in (after_all qs T)) (listed (largest_in (after_all qs T)))) (house_in W)) eve.members
        (rw ended_is (booked-house eve.stands (listed (largest_in (after_all qs T))) books));
  }

  -- it ends as rule 2 says for the first balances, all deposits and all payments taken at once: there is a largest set, and what it
  -- leaves is in the tables
  pub ends-as-at-once : (z : Counts)
      × (LargestSet (members_in T) (at_once (house_in T) (made qs T)) z)
      × (Same (members_in T) (booked (members_in T) (at_once (house_in T) (made qs T)) z) (house_in W))
  ends-as-at-once = let z = largest-exists (at-once-sound (holds-sound h) (made qs T)) in (z.0, z.1, as-at-once ended-day z.1)

-- ---- two of them

-- states that hold equal houses have the same payments waiting, with the same numbers
pub equal-queues : {W X : Tables} → Holds W → Holds X → Equal W X → (i : ℕ) → i < members_in W → queue_in W i ≡ queue_in X i
equal-queues {W} {X} h g e i q =
    let l = e.same.queues i q in
    let m : i < members = omega (arith, h.counters.few) in
    let s : settled_of X.counters i ≡ settled_of W.counters i = omega (arith, h.numbers.each i m, g.numbers.each i m, ap length l, e.lasts i q) in
    rw (s, l)

module _ {T U W X : Tables} {qs rs : List Request} (h : Holds T) (g : Holds U) (first : Equal T U) (d : Ended T qs W) (e : Ended U rs X)
    (paid-in : (i : ℕ) → i < members_in T → deposits (made rs U) i ≡ deposits (made qs T) i)
    (paid : (i : ℕ) → i < members_in T → payments (made rs U) i ≡ payments (made qs T) i) where
  -- stretches that begin alike, with equal deposit totals for each member and the same payments in the same order for each payer, end alike,
  pub ends-equal : Equal W X
  ends-equal = record {
    members = ended-members g e ∙ first.members ∙ sym (ended-members h d);
    same = subst (λ n. Same n (house_in W) (house_in X)) (sym (ended-members h d))
        (no-bank-favoured (ended-day h d) (subst (λ n. Day n (house_in U) (made rs U) (house_in X)) first.members (ended-day g e)) first.same paid-in paid);
    lasts = λ i l.
        let q : i < members_in T = omega (arith, ended-members h d) in
        omega (arith, ended-lasts h d i q, ended-lasts g e i (omega (arith, first.members)), first.lasts i q, ap length (paid i q));
  }

  -- with the same payments waiting: payer, number, payee and amount
  pub ends-queues : (i : ℕ) → i < members_in T → queue_in W i ≡ queue_in X i
  ends-queues i q = equal-queues (ended-stands h d) (ended-stands g e) ends-equal i (omega (arith, ended-members h d))
