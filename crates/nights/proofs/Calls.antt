-- What a line of the day does is what its requests do, one after the other.
use mathlib.Core.Path.{◌≡◌, refl, sym, ap, ◌∙◌}
use mathlib.Core.Bool.{true, false}
use mathlib.Core.List.{List, [], ◌∷◌}
use Prim.Native.Nat.{ℕ}
use borrow.Author.Tests.{eq-eqb}
use lib.ListN.{length, replicate, length-replicate}
use Rattle.tables.specs.Layout.{Tables, members_in}
use Rattle.tables.specs.Holds.{Holds}
use Rattle.tables.proofs.States.{holds-state}
use Rattle.booking.specs.Booking.{listed, booked_in}
use Rattle.answers.specs.Codes.{first}
use Rattle.answers.specs.Outcome.{Act, Outcome, held, called}
use Rattle.std.specs.Prelude.{Ok, Result}
use Rattle.answers.specs.declared.Refusal.{Refusal}
use Rattle.answers.specs.declared.Resolution.{Resolution}
use Rattle.answers.proofs.Outcomes.{held-fine, called-held}
use Rattle.entry.specs.Deposit.{deposit_act}
use Rattle.entry.specs.Submit.{submit_act}
use Rattle.settling.specs.Release.{release_act}
use Rattle.settling.specs.Group.{group_act}
use Rattle.resolving.specs.Resolve.{resolve_act, largest_in}
use Rattle.dayfile.specs.Entries as E
use Rattle.dayfile.specs.Entries.{DayLine, Entry}
use Rattle.night.specs.declared.Stage.TheVariants as G
use Rattle.daylines.specs.Calls.{call_does}
use Rattle.night.specs.Lines.{quiet, day_does}
use Rattle.days.specs.Days.{after_all}
use Rattle.nights.specs.Files.{request_of, requests_of, is_end}

module _ {t : Tables} (h : Holds t) where
  -- on a state a call is what it is on any tables
  state-calls : {A : Type 0} (k : Act A) → (held k t).after ≡ (called k t).after
  state-calls {A} k = ap (λ (u : Outcome A). u.after) (sym (called-held k t (holds-state h)))

  -- a resolution with a list of the right length is accepted
  pub resolves-fine : {n : ℕ} → members_in t ≡ n → first ((resolve_act (replicate n 0)).tests t) ≡ Ok tt
  unfolding resolve_act
  resolves-fine {n} e = rw (eq-eqb (length (replicate {A = ℕ} n 0)) (members_in t) (length-replicate n 0 ∙ sym e))

  resolve-calls : {n : ℕ} → members_in t ≡ n → booked_in t (listed (largest_in t)) ≡ (called (resolve_act (replicate n 0)) t).after
  unfolding resolve_act
  resolve-calls {n} e = ap (λ (u : Outcome (Result Resolution Refusal × List ℕ)). u.after) (sym (held-fine (resolve_act (replicate n 0)) t (resolves-fine e))) ∙ state-calls (resolve_act (replicate n 0))

  -- the tables after a line are those after its requests
  pub line-calls : {n : ℕ} → members_in t ≡ n → (i : ℕ) (e : Entry) → (day_does i t e).after ≡ after_all (requests_of n e) t
  line-calls q i (E.opening o) = refl
  line-calls {n} q i (E.day d) = go d
    where
      go : (d : DayLine) → (call_does i t d).after ≡ after_all (request_of n d ∷ []) t
      go (E.pay kind m k p x) = state-calls (submit_act m k p x)
      go (E.deposit m x) = state-calls (deposit_act m x)
      go (E.release m) = state-calls (release_act m)
      go (E.group k) = state-calls (group_act k)
      go E.resolve = resolve-calls q
  line-calls q i E.end = refl
  line-calls q i E.bad = refl

-- after any line but `end` it is still day,
pub day-stays : (i : ℕ) (t : Tables) (e : Entry) → is_end e ≡ false → (day_does i t e).stage ≡ G.Day
day-stays i t (E.opening o) q = refl
day-stays i t (E.day d) q = refl
day-stays i t E.end q = let z : true ≡ false = q in cc
day-stays i t E.bad q = refl

-- and after that nothing but the closing lines is left to say
pub end-does : (i : ℕ) (t : Tables) (e : Entry) → is_end e ≡ true → day_does i t e ≡ quiet (G.Ending 0) t
end-does i t (E.opening o) q = let z : false ≡ true = q in cc
end-does i t (E.day d) q = let z : false ≡ true = q in cc
end-does i t E.end q = refl
end-does i t E.bad q = let z : false ≡ true = q in cc
