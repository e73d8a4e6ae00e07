-- The demands of the tender for a host in C, over the bytes that it lends. A reader who believes specs/Hosts.antt needs no other file of proofs/.
use mathlib.Core.Path.{◌≡◌, refl, sym, ap, ◌∙◌, subst}
use mathlib.Core.Logic.{◌≢◌}
use mathlib.Core.List.{List}
use Prim.Native.Nat.{ℕ, ◌<◌}
use native.Mathlib.Omega.{arith}
use lib.IntN.{pos, ◌+ℤ◌}
use lib.Signed.{◌≤ℤ◌}
use lib.ListN.{get_or}
use Rattle.rule.specs.Kernel.{Counts, sum}
use Rattle.rule.specs.House.{House, LargestSet, Same, booked, money}
use Rattle.rule.specs.Day.{Call as Noted, deposits as deposits_of, payments, credited, lined, at_once}
use Rattle.rule.proofs.Sums.{sum-cong}
use Rattle.tables.specs.Layout.{Tables, members_in, house_in, money_of, cover_of}
use Rattle.tables.specs.Holds.{Holds}
use Rattle.answers.specs.Codes.{first}
use Rattle.answers.specs.Outcome.{Outcome, outcome, decided, judgement, called}
use Rattle.std.specs.Prelude.{Ok, Result}
use Rattle.answers.specs.declared.Refusal.{Refusal}
use Rattle.answers.specs.declared.Resolution.{Resolution}
use Rattle.answers.proofs.Outcomes.{held-fine}
use Rattle.booking.specs.Booking.{listed}
use Rattle.opening.specs.Open.{entry, opened_in, open_act}
use Rattle.opening.proofs.Judging.{open-fine}
use Rattle.resolving.specs.Resolve.{resolve_act, largest_in, told}
use Rattle.lent.specs.Bytes.{tables_in, accounts_in, signed_in, counts_in}
use Rattle.lent.proofs.Back.{least-in, held_kept}
use Rattle.lent.specs.Reply.{Lent, lends}
use Rattle.lent.specs.Stands.{Stands}
use Rattle.lent.specs.Asks.{Ask, opens, deposits, submits, releases, groups, resolves, replied, told_opened, told_resolved}
use Rattle.days.specs.Days.{Request, Begun, Ended, Equal, queue_in, made}
use Rattle.days.proofs.Sums.{day-money, chain-covered}
use Rattle.days.proofs.Openings.{begun-stands, begun-members, day-ends-as-at-once, days-end-equal, days-end-queues}
use Rattle.hosts.specs.Hosts.{HostCall, Chain, notes, HostDay, opening_in}
use Rattle.hosts.proofs.Replies.{refused-keeps, held-accepted, called-accepted}
use Rattle.hosts.proofs.Sizes.{kept-opened}
use Rattle.hosts.proofs.Links.{Link, Took, stored-stands, taken, took-link, linked}
use Rattle.hosts.proofs.Chains.{requests, chained}

-- ---- demand 1

-- whatever was asked: where the code is not 0, no lent byte changed, of tables, counts or answer
pub refused-changes-nothing : (q : Ask) (x : Lent) {y : Lent} {k : ℕ} → (k, y) ≡ replied q x → k ≢ 0 → y ≡ x
refused-changes-nothing = refused-keeps

took-stands : {s t : List ℕ} {cs : List Noted} {qs : List Request} → ((k : ℕ) → get_or s k 0 < 256) → Took s t cs qs → Stands t
took-stands {s} b a = (took-link (held_kept s b a.holds) a).stands

resolved-fine : {s t : List ℕ} (c : HostCall resolves 0 s t) → judgement (resolve_act (counts_in c.counts)) (tables_in s) ≡ Ok tt
unfolding resolve_act
resolved-fine {s} c = (called-accepted (resolve_act (counts_in c.counts)) 48 told_resolved (λ r. refl) (lends s c.counts c.answer) c.promise).fine

-- ---- an accepted open

module _ {n : ℕ} {u v s t : List ℕ} (c : HostCall (opens n u v) 0 s t) where
  opened : Stands t × (tables_in t ≡ opened_in (tables_in s) n (signed_in u) (signed_in v)) × (first ((open_act n (signed_in u) (signed_in v)).tests (tables_in s)) ≡ Ok tt)
  unfolding open_act
  opened =
      let a = held-accepted (open_act n (signed_in u) (signed_in v)) 8 told_opened (λ r. refl) (lends s c.counts c.answer) c.promise in
      let g = stored-stands s a.room (kept-opened (least-in s) (open-fine a.fine)) (rw a.fine at a.stored) in
      (g.0, g.1, a.fine)

  -- leaves a state,
  pub opened-stands : Stands t
  opened-stands = opened.0

  begun : Begun n (signed_in u) (signed_in v) (tables_in t)
  unfolding open_act
  begun = record {
    before = tables_in s;
    sum = money n (entry (signed_in u));
    promise = held-fine (open_act n (signed_in u) (signed_in v)) (tables_in s) opened.2 ∙ ap (outcome _) (sym opened.1);
  }

  module _ {e : List ℕ} (d : Chain t e) where
    -- and after any calls behind it the tables hold one,
    pub day-stands : Holds (tables_in e)
    day-stands = (chained opened-stands d).stands.kept.holds

    -- the sum of balances is the opening sum plus accepted deposits,
    pub day-sum : money_of (accounts_in e) ≡ money n (entry (signed_in u)) +ℤ pos (sum n (deposits_of (notes d)))
    day-sum =
        let k = chained opened-stands d in
        ap (λ (T : Tables). money_of T.accounts) k.is ∙ day-money begun (requests d) k.inside
        ∙ ap (λ m. money n (entry (signed_in u)) +ℤ pos m) (sum-cong n (deposits_of (made (requests d) (tables_in t))) (deposits_of (notes d)) (λ i q. k.deposits i))

    -- and each member is at or above minus its line
    pub day-covered : (i : ℕ) → i < n → pos 0 ≤ℤ cover_of (accounts_in e) i
    day-covered i q =
        subst (λ (T : Tables). pos 0 ≤ℤ cover_of T.accounts i) (sym (chained opened-stands d).is)
        (chain-covered (begun-stands begun) (requests d) (chained opened-stands d).inside i (omega (arith, begun-members begun)))

-- ---- after an accepted call

-- whatever was asked, on any bytes: where the code is 0, the tables hold a state again
pub accepted-stands : {s t : List ℕ} → ((k : ℕ) → get_or s k 0 < 256) → (q : Ask) → HostCall q 0 s t → Stands t
accepted-stands b (opens n u v) c = opened-stands c
accepted-stands b (deposits m x) c = took-stands b (taken (deposits m x) c tt)
accepted-stands b (submits m n q x) c = took-stands b (taken (submits m n q x) c tt)
accepted-stands b (releases m) c = took-stands b (taken (releases m) c tt)
accepted-stands b (groups u) c = took-stands b (taken (groups u) c tt)
accepted-stands b resolves c = took-stands b (taken resolves c tt)

-- ---- demand 3

resolved-is : (k : List ℕ) (T : Tables) {W : Tables} → judgement (resolve_act k) T ≡ Ok tt → W ≡ (called (resolve_act k) T).after
    → called (resolve_act k) T ≡ outcome (Ok (told (members_in T) (house_in T) (listed (largest_in T))), largest_in T) W
unfolding called resolve_act
resolved-is k T e f =
    let g = ap (decided (resolve_act k) T) e in
    g ∙ ap (outcome _) (sym (f ∙ ap (λ (u : Outcome (Result Resolution Refusal × List ℕ)). u.after) g))

at-once-same : (O : House) (cs ds : List Noted) → ((i : ℕ) → deposits_of cs i ≡ deposits_of ds i) → ((i : ℕ) → payments cs i ≡ payments ds i)
    → at_once O cs ≡ at_once O ds
at-once-same O cs ds e f j = lined (credited O (λ i. e i j)) (λ i. f i j)

module _ {n : ℕ} {u v t : List ℕ} (d : HostDay n u v t) where
  link : Link d.morning d.eve (notes d.calls) (requests d.calls)
  link = chained (opened-stands d.first) d.calls

  ended : Ended (tables_in d.morning) (requests d.calls) (tables_in t)
  ended =
      let c = d.last in
      let g = linked link.stands c tt in
      record {
        inside = link.inside;
        given = counts_in c.counts;
        told = largest_in (tables_in d.eve);
        resolution = told (members_in (tables_in d.eve)) (house_in (tables_in d.eve)) (listed (largest_in (tables_in d.eve)));
        last = ap (called (resolve_act (counts_in c.counts))) (sym link.is) ∙ resolved-is (counts_in c.counts) (tables_in d.eve) (resolved-fine c) g.is;
      }

  -- a day ends as rule 2 says for the opening balances, all deposits and all payments taken at once: there is a largest set, and what it leaves is in the tables
  pub ends-as-at-once : (z : Counts)
      × (LargestSet n (at_once (opening_in u v) (notes d.calls)) z)
      × (Same n (booked n (at_once (opening_in u v) (notes d.calls)) z) (house_in (tables_in t)))
  ends-as-at-once =
      let z = day-ends-as-at-once (begun d.first) ended in
      let e = at-once-same (opening_in u v) (made (requests d.calls) (tables_in d.morning)) (notes d.calls) link.deposits link.payments in
      (z.0, subst (λ H. LargestSet n H z.0) e z.1, subst (λ H. Same n (booked n H z.0) (house_in (tables_in t))) e z.2)

module _ {n : ℕ} {u v t r : List ℕ} (d : HostDay n u v t) (e : HostDay n u v r)
    (paid-in : (i : ℕ) → i < n → deposits_of (notes e.calls) i ≡ deposits_of (notes d.calls) i)
    (paid : (i : ℕ) → i < n → payments (notes e.calls) i ≡ payments (notes d.calls) i) where
  -- two days that open alike, with equal totals of accepted deposits for each member and the same accepted payments in the same order
  -- for each payer, end with equal balances,
  pub days-end : Equal (tables_in t) (tables_in r)
  days-end = days-end-equal (begun d.first) (begun e.first) (ended d) (ended e)
      (λ i q. (link e).deposits i ∙ paid-in i q ∙ sym ((link d).deposits i)) (λ i q. (link e).payments i ∙ paid i q ∙ sym ((link d).payments i))

  -- and equal queues: payer, number, payee and amount of each payment
  pub days-queues : (i : ℕ) → i < n → queue_in (tables_in t) i ≡ queue_in (tables_in r) i
  days-queues = days-end-queues (begun d.first) (begun e.first) (ended d) (ended e)
      (λ i q. (link e).deposits i ∙ paid-in i q ∙ sym ((link d).deposits i)) (λ i q. (link e).payments i ∙ paid i q ∙ sym ((link d).payments i))
