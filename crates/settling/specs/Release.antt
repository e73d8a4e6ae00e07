-- Release: the head of member m (document 01, "Release"; codes 1, 2, 8, 9). Payer, number and amount are told.
use Rattle.std.specs.Prelude.{Bool, not, [], ◌∷◌, ℕ, ◌+◌, ◌-◌, eqb, pos, get_or, Ok, Err, Result}
use Rattle.std.specs.Int.Signed.{le_z}
use Rattle.rule.specs.Kernel.{Counts}
use Rattle.rule.specs.Payment.{amount_of}
use Rattle.rule.specs.House.{waits}
use Rattle.tables.specs.Layout.{Tables, house_in, settled_of, cover_of}
use Rattle.booking.specs.Booking.{head_alone, booked_in}
use Rattle.answers.specs.Codes.{test, is_member}
use Rattle.answers.specs.Outcome.{Act, outcome}
use Rattle.answers.specs.declared.Refusal.TheVariants.{Member, Nothing, Cover}
use Rattle.answers.specs.declared.Refusal.{Refusal}
use Rattle.answers.specs.declared.Released.{Released}

-- the amount of member m's head payment
abbrev pub head_amount : Tables → ℕ → ℕ
head_amount T m = amount_of (get_or ((house_in T).queue (m - 1)) 0 0)

-- balance + line >= amount
abbrev pub head_covered : Tables → ℕ → Bool
head_covered T m = le_z (pos (head_amount T m)) (cover_of T.accounts (m - 1))

-- the head of member m alone is booked
abbrev pub only_head : ℕ → Counts
only_head m = head_alone (m - 1)

unfoldable pub release_act : ℕ → Act (Result Released Refusal)
release_act m = record {
  refuse = Err;
  tests = λ T. test (not (is_member T.counters m)) Member ∷ test (eqb (waits (house_in T) (m - 1)) 0) Nothing ∷ test (not (head_covered T m)) Cover ∷ [];
  does = λ T. outcome (Ok (record { payer = m; number = settled_of T.counters (m - 1) + 1; amount = head_amount T m })) (booked_in T (only_head m));
}
