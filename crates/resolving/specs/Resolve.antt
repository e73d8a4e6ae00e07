-- Resolve: the largest allowed set is booked (document 01, "Resolve", "Verdict"; codes 1, 10). T are the tables before,
-- k is the lent list of counts; H is a house of n members, z a set of payments as counts, i a member.
use Rattle.std.specs.Prelude.{◌≡◌, Bool, not, List, [], ◌∷◌, ℕ, ◌≤◌, ◌<◌, eqb, ltb, ℤ, pos, length, get_or, Ok, Err, Result}
use Rattle.rule.specs.Lists.{listing}
use Rattle.rule.specs.Kernel.{Counts, sum}
use Rattle.rule.specs.House.{House, waits, sent, LargestSet}
use Rattle.rule.specs.Verdict.{verdict}
use Rattle.rule.specs.Resolution.{resolution}
use Rattle.sets.specs.Sets.{set_of}
use Rattle.tables.specs.Sizes.{members}
use Rattle.tables.specs.Layout.{Tables, members_in, house_in, balance_of, last_of, settled_of}
use Rattle.booking.specs.Booking.{listed, booked_in}
use Rattle.answers.specs.Codes.{test}
use Rattle.answers.specs.Outcome.{Act, outcome}
use Rattle.answers.specs.Verdicts.{named}
use Rattle.answers.specs.declared.Refusal.TheVariants.{Counts as BadCounts}
use Rattle.answers.specs.declared.Resolution.{Resolution}
use Rattle.answers.specs.declared.Refusal.{Refusal}

-- the counts of the largest allowed set, one for each member
unfoldable pub largest_in : Tables → List ℕ
largest_in T = listing (members_in T) (resolution (members_in T) (house_in T))

-- member i still has payments waiting when z is booked
abbrev pub still_waits : House → Counts → ℕ → Bool
still_waits H z i = ltb (z i) (waits H i)

-- what is told of the resolution that books z in the house H of n members: the verdict, how many payments, their sum, and the set of
-- members with payments still waiting
abbrev pub told : ℕ → House → Counts → Resolution
told n H z = record { verdict = named (verdict n H z); payments = sum n z; sum = sum n (sent H z); waiting = set_of n (still_waits H z) }

-- the answer comes with the lent list: the counts of the largest allowed set, or as it was
unfoldable pub resolve_act : List ℕ → Act (Result Resolution Refusal × List ℕ)
resolve_act k = record {
  refuse = λ r. (Err r, k);
  tests = λ T. test (not (eqb (length k) (members_in T))) BadCounts ∷ [];
  does = λ T. outcome (Ok (told (members_in T) (house_in T) (listed (largest_in T))), largest_in T) (booked_in T (listed (largest_in T)));
}

-- where a resolution was made, the counts told are the largest allowed set of the house that the tables held before it
abbrev pub ToldLargest : Result Resolution Refusal → Tables → List ℕ → Type 0
ToldLargest (Ok r) T counts = LargestSet (members_in T) (house_in T) (listed counts)
ToldLargest (Err r) T counts = Unit {0}

-- ---- its steps

-- member i has payments waiting, by the counters c: fewer were settled than accepted
abbrev pub has_waiting : List ℕ → ℕ → Bool
has_waiting c i = ltb (settled_of c i) (last_of c i)

-- the positions are the balances that the accounts hold
pub record Balances (accounts positions : List ℤ) : Type 0 where
  pub each : length positions ≡ members
  pub same : (i : ℕ) → i < members → get_or positions i (pos 0) ≡ balance_of accounts i

-- the counts in a list of the house's length are those of the largest allowed set: past the members they are 0
pub record LargestIs (T : Tables) (counts : List ℕ) : Type 0 where
  pub each : length counts ≡ members
  pub largest : LargestSet (members_in T) (house_in T) (listed counts)
  pub past : (i : ℕ) → members_in T ≤ i → i < members → listed counts i ≡ 0
