-- Submit: payer m gives number n to a payment of x to q (document 01, "Submit"; codes 1, 2, 3, 4, 5, 6). It settles nothing.
use Rattle.std.specs.Prelude.{Bool, not, ◌&&◌, List, [], ◌∷◌, ℕ, ◌+◌, ◌-◌, eqb, leb, set, Ok, Err, Result, ⊤}
use Rattle.rule.specs.Payment.{word}
use Rattle.tables.specs.Sizes.{places, last_number}
use Rattle.tables.specs.Layout.{Tables, tables, waiting_in, waiting_of, last_of, lasts_at, waiting_at}
use Rattle.answers.specs.Codes.{Test, test, is_member, is_amount}
use Rattle.answers.specs.Outcome.{Act, outcome}
use Rattle.answers.specs.declared.Refusal.TheVariants.{Member, Same, Amount, Number, Full}
use Rattle.answers.specs.declared.Refusal.{Refusal}

-- n is the payer's last number + 1, and not above 4,294,967,295
abbrev pub is_next : List ℕ → ℕ → ℕ → Bool
is_next c m n = eqb n (last_of c (m - 1) + 1) && leb n last_number

abbrev pub submit_tests : List ℕ → ℕ → ℕ → ℕ → ℕ → List Test
submit_tests c m n q x =
    test (not (is_member c m && is_member c q)) Member ∷ test (eqb m q) Same ∷ test (not (is_amount x)) Amount ∷ test (not (is_next c m n)) Number
    ∷ test (leb places (waiting_of c)) Full ∷ []

-- one more waits, and the payer's last number is n
abbrev pub counters_submitted : List ℕ → ℕ → ℕ → List ℕ
counters_submitted c m n = set (set c waiting_at (waiting_of c + 1)) (lasts_at + (m - 1)) n

-- the tables with the payment in the first unused place
unfoldable pub submitted_in : Tables → ℕ → ℕ → ℕ → ℕ → Tables
submitted_in T m n q x = tables T.accounts (counters_submitted T.counters m n) (set T.pays (waiting_in T) (word (m - 1) (q - 1) x))

unfoldable pub submit_act : ℕ → ℕ → ℕ → ℕ → Act (Result ⊤ Refusal)
submit_act m n q x = record { refuse = Err; tests = λ T. submit_tests T.counters m n q x; does = λ T. outcome (Ok tt) (submitted_in T m n q x) }
