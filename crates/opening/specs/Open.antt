-- Open: n members with balances b and lines l (document 01, "Open"; codes 1, 11). The sum of balances is told.
use Rattle.std.specs.Prelude.{Bool, cond, not, ◌&&◌, List, [], ◌∷◌, ℕ, ◌-◌, eqb, leb, ltb, ℤ, pos, length, get_or, Ok, Err, Result}
use Rattle.std.specs.Int.Signed.{le_z}
use Rattle.rule.specs.Lists.{fill}
use Rattle.rule.specs.House.{money}
use Rattle.tables.specs.Sizes.{members, most, places, table}
use Rattle.tables.specs.Layout.{Tables, tables, lines_at, members_at}
use Rattle.tables.specs.State.{every, holder_ok, sized}
use Rattle.answers.specs.Codes.{Test, test}
use Rattle.answers.specs.Outcome.{Act, outcome}
use Rattle.answers.specs.declared.Refusal.TheVariants.{State, Opening}
use Rattle.answers.specs.declared.Refusal.{Refusal}

abbrev pub entry : List ℤ → ℕ → ℤ
entry l i = get_or l i (pos 0)

-- member i opens with a line of 0 to 10^12, and a balance from minus that to 2 x 10^15
abbrev pub opens_at : List ℤ → List ℤ → ℕ → Bool
opens_at b l i = holder_ok (entry b i) (entry l i)

-- 1 to 64 members, both lists that long, each member in order, and the sum at most 10^15
abbrev pub is_opening : ℕ → List ℤ → List ℤ → Bool
is_opening n b l =
    leb 1 n && (leb n members && (eqb (length b) n && (eqb (length l) n && (every (opens_at b l) n && le_z (money n (entry b)) (pos most)))))

abbrev pub open_tests : Tables → ℕ → List ℤ → List ℤ → List Test
open_tests T n b l = test (not (sized T.accounts T.counters T.pays)) State ∷ test (not (is_opening n b l)) Opening ∷ []

-- ---- the tables: overwritten up to the least lengths

-- the balances from place 0 on, the lines from 64 on, and 0 elsewhere
abbrev pub account_opened : ℕ → List ℤ → List ℤ → ℕ → ℤ
account_opened n b l k = cond (ltb k n) (entry b k) (cond (leb lines_at k && ltb (k - lines_at) n) (entry l (k - lines_at)) (pos 0))

-- the count, and nothing accepted, settled or waiting
abbrev pub counter_opened : ℕ → ℕ → ℕ
counter_opened n k = cond (eqb k members_at) n 0

-- no payment waits
unfoldable pub opened_in : Tables → ℕ → List ℤ → List ℤ → Tables
opened_in T n b l = tables (fill table (account_opened n b l) T.accounts) (fill table (counter_opened n) T.counters) (fill places (λ k. 0) T.pays)

-- ---- the call, on any tables: it asks for no state

unfoldable pub open_act : ℕ → List ℤ → List ℤ → Act (Result ℤ Refusal)
open_act n b l = record { refuse = Err; tests = λ T. open_tests T n b l; does = λ T. outcome (Ok (money n (entry b))) (opened_in T n b l) }
