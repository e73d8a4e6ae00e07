-- An accepted submission leaves a state, and is the rule's: from what its judgement found, and from the places of the counters and payments that are set.
use mathlib.Core.Path.{◌≡◌, refl, sym, ap, ◌∙◌}
use mathlib.Core.Bool.{Bool, true, false, cond}
use mathlib.Core.Logic.{◌≢◌}
use mathlib.Core.List.{List, [], ◌∷◌, ◌++◌}
use Prim.Native.Nat.{ℕ, ◌+◌, ◌-◌, ◌<◌}
use native.Mathlib.Decide.{ℕ_discrete, dec_lt}
use native.Mathlib.Numerals.{add-one}
use native.Mathlib.Omega.{arith}
use lib.Dec.{eqb}
use lib.ListN.{length, get_or, set, length-set, length-append}
use lib.Seq.{get_or-set_same, get_or-set_other, take-suc-set}
use Rattle.rule.specs.Payment.{payer_of, word}
use Rattle.rule.specs.House.{Same}
use Rattle.rule.specs.Queue.{just}
use Rattle.rule.specs.Day.{submit, call, Accepts, only_for}
use Rattle.rule.specs.Table.{queue_of}
use Rattle.rule.proofs.Payments.{payer-word, payee-word, amount-word, flags-word}
use Rattle.rule.proofs.Sums.{eqb_same, eqb-other}
use Rattle.tables.specs.Sizes.{members}
use Rattle.tables.specs.Layout.{Tables, members_in, waiting_in, words_in, house_in, last_of, settled_of, lasts_at, settled_at, spare_counters_at, spare_singles_at, waiting_at}
use Rattle.tables.specs.Holds.{Payment, Holds}
use Rattle.entry.specs.Submit.{submitted_in}
use Rattle.entry.proofs.Judging.{Submits}

-- a payment at the end of the table stands at the tail of its payer's queue
pub queue-snoc : (i : ℕ) (t : List ℕ) (w : ℕ) → queue_of i (t ++ (w ∷ [])) ≡ queue_of i t ++ just (payer_of w) w i
queue-snoc i [] w = refl
queue-snoc i (v ∷ t) w = go (eqb (payer_of v) i) (queue-snoc i t w)
  where
    go : (b : Bool) → queue_of i (t ++ (w ∷ [])) ≡ queue_of i t ++ just (payer_of w) w i
        → cond b (v ∷ queue_of i (t ++ (w ∷ []))) (queue_of i (t ++ (w ∷ []))) ≡ cond b (v ∷ queue_of i t) (queue_of i t) ++ just (payer_of w) w i
    go true e = ap (λ l. v ∷ l) e
    go false e = e

just-long : (j w i : ℕ) → length (just j w i) ≡ only_for j 1 i
just-long j w i = go (eqb j i)
  where
    go : (b : Bool) → length (cond b (w ∷ []) []) ≡ cond b 1 0
    go true = refl
    go false = refl

module _ {T : Tables} {m n q x : ℕ} (h : Holds T) (s : Submits T m n q x) where
  payer : m - 1 < members
  payer = omega (arith, s.one, s.within, h.counters.few)

  payee : q - 1 < members
  payee = omega (arith, s.to, s.known, h.counters.few)

  payer-is : payer_of (word (m - 1) (q - 1) x) ≡ m - 1
  payer-is = payer-word (m - 1) (q - 1) x payer payee

  -- ---- the payment

  submits-payment : Payment (members_in T) (word (m - 1) (q - 1) x)
  submits-payment =
      let r = payer-is in
      let e = payee-word (m - 1) (q - 1) x payer payee in
      let y = amount-word (m - 1) (q - 1) x payer payee in
      record {
        payer = omega (arith, s.one, s.within);
        payee = omega (arith, s.to, s.known);
        other = λ g. s.apart (omega (arith, s.one, s.to));
        plain = flags-word (m - 1) (q - 1) x payer payee;
        some = omega (arith, s.some);
        small = omega (arith, s.small);
      }

  -- ---- the counters

  cell : (j : ℕ) → j ≢ waiting_at → j ≢ lasts_at + (m - 1) → get_or (submitted_in T m n q x).counters j 0 ≡ get_or T.counters j 0
  unfolding submitted_in
  cell j u v = get_or-set_other (set T.counters waiting_at (waiting_in T + 1)) (lasts_at + (m - 1)) j n 0 v ∙ get_or-set_other T.counters waiting_at j (waiting_in T + 1) 0 u

  -- the accounts stay,
  pub submits-accounts : (submitted_in T m n q x).accounts ≡ T.accounts
  unfolding submitted_in
  submits-accounts = refl

  -- and the count,
  pub submits-count : members_in (submitted_in T m n q x) ≡ members_in T
  unfolding submitted_in
  submits-count = cell 0 (λ e. omega arith) (λ e. omega arith)

  -- one more payment waits,
  pub submits-waiting : waiting_in (submitted_in T m n q x) ≡ waiting_in T + 1
  unfolding submitted_in
  submits-waiting =
      get_or-set_other (set T.counters waiting_at (waiting_in T + 1)) (lasts_at + (m - 1)) waiting_at n 0 (λ e. omega arith)
      ∙ get_or-set_same T.counters waiting_at (waiting_in T + 1) 0 (omega (arith, h.counters.broad))

  -- and the payer's last number is one more, and each other's stays
  pub submits-last : (i : ℕ) → last_of (submitted_in T m n q x).counters i ≡ last_of T.counters i + only_for (m - 1) 1 i
  unfolding submitted_in
  submits-last i = elim (ℕ_discrete (m - 1) i) [
    | yes e ↦
        let l = set T.counters waiting_at (waiting_in T + 1) in
        let g = get_or-set_same l (lasts_at + (m - 1)) n 0 (simp length-set (omega (arith, h.counters.broad, payer))) in
        rw (eqb_same e) (ap (last_of (submitted_in T m n q x).counters) (sym e) ∙ g ∙ s.next ∙ ap (λ j. last_of T.counters j + 1) e)
    | no e ↦ rw (eqb-other e) (cell (lasts_at + i) (λ g. omega arith) (λ g. e (omega arith)) ∙ omega arith)
  ]

  submits-settled : (i : ℕ) → settled_of (submitted_in T m n q x).counters i ≡ settled_of T.counters i
  unfolding submitted_in
  submits-settled i = cell (settled_at + i) (λ e. omega arith) (λ e. omega (arith, payer))

  -- ---- the places

  there : (k : ℕ) → k ≢ waiting_in T → get_or (submitted_in T m n q x).pays k 0 ≡ get_or T.pays k 0
  unfolding submitted_in
  there k ne = get_or-set_other T.pays (waiting_in T) k (word (m - 1) (q - 1) x) 0 ne

  submits-words : words_in (submitted_in T m n q x) ≡ words_in T ++ (word (m - 1) (q - 1) x ∷ [])
  unfolding submitted_in
  submits-words = rw (submits-waiting, add-one) (take-suc-set T.pays (waiting_in T) (word (m - 1) (q - 1) x) (omega (arith, s.room, h.places.deep)))

  -- the payment stands at the tail of its payer's queue, and the other queues stay
  pub submits-queue : (i : ℕ) → queue_of i (words_in (submitted_in T m n q x)) ≡ queue_of i (words_in T) ++ just (payer_of (word (m - 1) (q - 1) x)) (word (m - 1) (q - 1) x) i
  unfolding submitted_in
  submits-queue i = ap (queue_of i) submits-words ∙ queue-snoc i (words_in T) (word (m - 1) (q - 1) x)

  payment-at : (k : ℕ) → k < waiting_in T + 1 → Payment (members_in T) (get_or (submitted_in T m n q x).pays k 0)
  unfolding submitted_in
  payment-at k l = elim (dec_lt k (waiting_in T)) [
    | yes y ↦ rw (there k (λ e. omega arith)) (h.places.words k y)
    | no y ↦
        let e : k ≡ waiting_in T = omega arith in
        rw (e, get_or-set_same T.pays (waiting_in T) (word (m - 1) (q - 1) x) 0 (omega (arith, s.room, h.places.deep))) submits-payment
  ]

  submits-numbers : (i : ℕ) → i < members
      → settled_of (submitted_in T m n q x).counters i + length (queue_of i (words_in (submitted_in T m n q x))) ≡ last_of (submitted_in T m n q x).counters i
  unfolding submitted_in
  submits-numbers i l =
      rw (submits-settled i, submits-queue i, length-append, just-long, payer-is, submits-last i)
      (omega (arith, h.numbers.each i l))

  -- ---- the state

  -- the tables hold a state,
  pub submits-hold : Holds (submitted_in T m n q x)
  unfolding submitted_in
  submits-hold = record {
    counters = record {
      broad = simp length-set h.counters.broad;
      one = rw submits-count h.counters.one;
      few = rw submits-count h.counters.few;
      room = rw submits-waiting (omega (arith, s.room));
      spare = λ k r. cell (spare_singles_at + k) (λ e. omega arith) (λ e. omega arith) ∙ h.counters.spare k r;
      later = λ k r. cell (spare_counters_at + k) (λ e. omega arith) (λ e. omega (arith, payer)) ∙ h.counters.later k r;
    };
    accounts = rw submits-count h.accounts;
    places = rw (submits-count, submits-waiting) (record {
      deep = simp length-set h.places.deep;
      words = payment-at;
      no_payment = λ k l r. there k (λ e. omega arith) ∙ h.places.no_payment k (omega arith) r;
    });
    numbers = record {
      each = submits-numbers;
      no_number = rw submits-count (λ i l r. cell (lasts_at + i) (λ e. omega arith) (λ e. omega (arith, s.one, s.within)) ∙ h.numbers.no_number i l r);
    };
  }

  -- the payment is one that the rule accepts,
  pub submits-accepts : Accepts (members_in T) (house_in T) (submit (word (m - 1) (q - 1) x))
  submits-accepts = let w = submits-payment in (w.payee, λ e. w.other (sym e))

  -- and the house is the one after it
  pub submits-call : Same (members_in T) (call (members_in T) (house_in T) (submit (word (m - 1) (q - 1) x))) (house_in (submitted_in T m n q x))
  unfolding submitted_in
  submits-call = record { lines = λ i l. refl; balances = λ i l. refl; queues = λ i l. submits-queue i }
