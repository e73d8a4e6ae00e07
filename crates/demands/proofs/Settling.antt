-- An accepted resolution settles the largest set, and tells what document 01's verdict says.
use mathlib.Core.Path.{◌≡◌, refl, sym, ap, ◌∙◌, subst}
use mathlib.Core.Bool.{Bool, true, false, cond}
use mathlib.Core.List.{List}
use Prim.Native.Nat.{ℕ}
use native.Mathlib.Omega.{arith}
use lib.Dec.{eqb}
use lib.ListN.{length}
use Rattle.rule.specs.Kernel.{Counts, sum}
use Rattle.rule.specs.House.{House, waits}
use Rattle.rule.specs.Verdict.{verdict}
use Rattle.tables.specs.Layout.{Tables, members_in, house_in}
use Rattle.tables.specs.Holds.{Holds}
use Rattle.booking.specs.Booking.{listed, booked_in}
use Rattle.booking.proofs.Kept.{booked-house}
use Rattle.answers.specs.Outcome.{Outcome, Act, decided, judgement, called}
use Rattle.answers.specs.Verdicts.{verdict_number, named}
use Rattle.std.specs.Prelude.{Ok, Result}
use Rattle.answers.specs.declared.Refusal.{Refusal}
use Rattle.answers.specs.declared.Resolution.{Resolution}
use Rattle.answers.proofs.Outcomes.{judgement-fine}
use Rattle.resolving.specs.Resolve.{resolve_act, largest_in, told}
use Rattle.resolving.proofs.Resolves.{largest-is, largest-books, resolve-verdict}
use Rattle.words.specs.Row.{put_row, as_it_is}
use Rattle.lent.specs.Bytes.{tables_in, counts_in, roomy}
use Rattle.lent.specs.Reply.{Lent, lends, written, on_bytes}
use Rattle.lent.specs.Asks.{told_resolved, answer_parts, resolves}
use Rattle.lent.specs.Stands.{Stands}
use Rattle.hosts.specs.Hosts.{HostCall}
use Rattle.hosts.proofs.Replies.{called-accepted}
use Rattle.hosts.proofs.Links.{linked}
use Rattle.demands.specs.Settles.{Settles}

number-named : (n : ℕ) (H : House) (z : Counts) → verdict_number (named (verdict n H z)) ≡ verdict n H z
number-named n H z = go (eqb (sum n (waits H)) 0) (eqb (sum n z) 0) (eqb (sum n z) (sum n (waits H)))
  where
    go : (x y w : Bool) → verdict_number (named (cond x 0 (cond y 3 (cond w 1 2)))) ≡ cond x 0 (cond y 3 (cond w 1 2))
    go true y w = refl
    go false true w = refl
    go false false true = refl
    go false false false = refl

abbrev pub told_in : Tables → Resolution
told_in T = told (members_in T) (house_in T) (listed (largest_in T))

-- what is booked in a state
pub booked-settles : {T : Tables} → Holds T → Settles T (booked_in T (listed (largest_in T))) (verdict (members_in T) (house_in T) (listed (largest_in T)))
booked-settles {T} h = record { set = listed (largest_in T); largest = largest-is h; books = booked-house h (listed (largest_in T)) (largest-books h); says = resolve-verdict h }

module _ (k : List ℕ) (T : Tables) (fine : judgement (resolve_act k) T ≡ Ok tt) where
  done-is : called (resolve_act k) T ≡ (resolve_act k).does T
  unfolding called
  done-is = ap (decided (resolve_act k) T) fine

  -- the answer, and what it says of the house before
  pub resolve-answers : (called (resolve_act k) T).answer ≡ (Ok (told_in T), largest_in T)
  unfolding resolve_act
  resolve-answers = ap (λ (u : Outcome (Result Resolution Refusal × List ℕ)). u.answer) done-is

  pub resolve-settles : Settles T (called (resolve_act k) T).after (verdict_number (told_in T).verdict)
  unfolding resolve_act
  resolve-settles =
      let v = verdict_number (told_in T).verdict in
      let a : booked_in T (listed (largest_in T)) ≡ (called (resolve_act k) T).after = sym (ap (λ (u : Outcome (Result Resolution Refusal × List ℕ)). u.after) done-is) in
      let e = sym (number-named (members_in T) (house_in T) (listed (largest_in T))) in
      let s : Settles T (booked_in T (listed (largest_in T))) v = subst (Settles T (booked_in T (listed (largest_in T)))) e (booked-settles (judgement-fine (resolve_act k) T fine).0) in
      subst (λ (W : Tables). Settles T W v) a s

-- ---- on a host's bytes

module _ {s t : List ℕ} (c : HostCall resolves 0 s t) where
  abbrev K : Act (Result Resolution Refusal × List ℕ)
  K = resolve_act (counts_in c.counts)

  bytes-fine : judgement K (tables_in s) ≡ Ok tt
  unfolding resolve_act
  bytes-fine = (called-accepted K 48 told_resolved (λ r. refl) (lends s c.counts c.answer) c.promise).fine

  -- what the answer's bytes hold
  pub bytes-answer : c.answer' ≡ put_row as_it_is 8 c.answer 0 (answer_parts (told_in (tables_in s)))
  bytes-answer = go (roomy (length s) (length c.answer) 48) c.promise
    where
      go : (b : Bool) → (0, lends t c.counts' c.answer') ≡ cond b (on_bytes told_resolved (called K) (lends s c.counts c.answer)) (1, lends s c.counts c.answer)
          → c.answer' ≡ put_row as_it_is 8 c.answer 0 (answer_parts (told_in (tables_in s)))
      go true e =
          let a : (called K (tables_in s)).answer ≡ (Ok (told_in (tables_in s)), largest_in (tables_in s)) = resolve-answers (counts_in c.counts) (tables_in s) bytes-fine in
          ap (λ (r : ℕ × Lent). r.1.answer) e
          ∙ ap (λ (r : Result Resolution Refusal × List ℕ). (written (lends s c.counts c.answer) (called K (tables_in s)).after (told_resolved r)).1.answer) a
      go false e = absurd (let z : ◌≡◌ {A = ℕ} 0 1 = ap (λ (r : ℕ × Lent). r.0) e in omega arith)

  pub bytes-settle : Stands s → Settles (tables_in s) (tables_in t) (verdict_number (told_in (tables_in s)).verdict)
  bytes-settle h =
      let v = verdict_number (told_in (tables_in s)).verdict in
      subst (λ (W : Tables). Settles (tables_in s) W v) (sym (linked h c tt).is) (resolve-settles (counts_in c.counts) (tables_in s) bytes-fine)
