-- Group: that many from each head at once (document 01, "Group"; codes 1, 10, 9). k is the lent list of counts.
use Rattle.std.specs.Prelude.{Bool, not, ◌&&◌, List, [], ◌∷◌, ℕ, eqb, leb, pos, length, Ok, Err, Result}
use Rattle.std.specs.Int.Signed.{le_z}
use Rattle.rule.specs.Kernel.{Counts, sum}
use Rattle.rule.specs.House.{House, waits, sent, cover, booked}
use Rattle.tables.specs.Layout.{members_in, house_in, count_of, waits_of}
use Rattle.tables.specs.State.{every}
use Rattle.booking.specs.Booking.{listed, booked_in}
use Rattle.answers.specs.Codes.{test}
use Rattle.answers.specs.Outcome.{Act, outcome}
use Rattle.answers.specs.declared.Refusal.TheVariants.{Counts as BadCounts, Cover}
use Rattle.answers.specs.declared.Refusal.{Refusal}
use Rattle.answers.specs.declared.Grouped.{Grouped}

-- the list is as long as the member count, and no count is above what waits
abbrev pub count_at : House → List ℕ → ℕ → Bool
count_at H k i = leb (listed k i) (waits H i)

abbrev pub is_counts : ℕ → House → List ℕ → Bool
is_counts n H k = eqb (length k) n && every (count_at H k) n

-- the same, by the counters
abbrev pub counts_fit : List ℕ → List ℕ → Bool
counts_fit c k = eqb (length k) (count_of c) && every (λ i. leb (listed k i) (waits_of c i)) (count_of c)

-- each member is covered if z is booked
abbrev pub cover_at : ℕ → House → Counts → ℕ → Bool
cover_at n H z i = le_z (pos 0) (cover (booked n H z) i)

abbrev pub is_covered : ℕ → House → Counts → Bool
is_covered n H z = every (cover_at n H z) n

-- z is booked at once, if each member is covered then: how many payments, and their sum, are told
unfoldable pub book_act : Counts → Act (Result Grouped Refusal)
book_act z = record {
  refuse = Err;
  tests = λ T. test (not (is_covered (members_in T) (house_in T) z)) Cover ∷ [];
  does = λ T. outcome (Ok (record { payments = sum (members_in T) z; sum = sum (members_in T) (sent (house_in T) z) })) (booked_in T z);
}

-- the counts k
unfoldable pub group_act : List ℕ → Act (Result Grouped Refusal)
unfolding book_act
group_act k = record {
  refuse = Err;
  tests = λ T. test (not (is_counts (members_in T) (house_in T) k)) BadCounts ∷ (book_act (listed k)).tests T;
  does = (book_act (listed k)).does;
}
