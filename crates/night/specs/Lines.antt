-- What one line of the day file does (document 01, "The day file and the sheet"): what it says on the sheet, the stage after it, and the
-- tables after it.
use Rattle.std.specs.Prelude.{cond, ◌&&◌, List, [], ◌∷◌, ◌++◌, ℕ, ◌+◌, eqb, leb, ltb, ℤ, pos, length, take, drop, set, Ok, Err, Result, Option, Some, None}
use Rattle.rule.specs.Lists.{listing}
use Rattle.rule.specs.Table.{queue_of}
use Rattle.tables.specs.Sizes.{members}
use Rattle.tables.specs.Layout.{lines_at, Tables, tables, count_of, balance_of, money_of, words_of}
use Rattle.answers.specs.Outcome.{Outcome, held}
use Rattle.opening.specs.Open.{open_act}
use Rattle.answers.specs.declared.Refusal.{Refusal}
use Rattle.answers.specs.declared.Refusal.TheVariants.{Opening, Line}
use Rattle.dayfile.specs.Entries.{house, member, Entry, opening, day, end, bad}
use Rattle.daylines.specs.Calls.{refusal, call_does}
use Rattle.sheet.specs.declared.Says.{Says}
use Rattle.sheet.specs.declared.Says.TheVariants as S
use Rattle.night.specs.declared.Stage.{Stage}
use Rattle.night.specs.declared.Stage.TheVariants as G
use Rattle.night.specs.declared.Does.{Does}

-- what a line does: the lines that it says on the sheet at once, the stage after it, which may have more to say, and the tables after it
pub record Did : Type 0 where
  pub said : List Says
  pub stage : Stage
  pub after : Tables

-- the lines that the code's answer says
abbrev pub said_in : Option Says → List Says
said_in None = []
said_in (Some s) = s ∷ []

-- the answer of the code, with the tables after it
abbrev pub done_by : Does → List ℤ → List ℕ → List ℕ → Did
done_by r a c p = record { said = said_in r.said; stage = r.stage; after = tables a c p }

-- nothing is said
abbrev pub quiet : Stage → Tables → Did
quiet g t = record { said = []; stage = g; after = t }

-- one line is said
abbrev pub says : Says → Stage → Tables → Did
says s g t = record { said = s ∷ []; stage = g; after = t }

-- a refusal in the opening: the night stops
abbrev pub stops : ℕ → Refusal → Tables → Did
stops n r t = says (refusal n r) G.Over t

-- ---- the opening

-- the house line is first: a count of 1 to 64 begins the member lines
abbrev pub house_does : ℕ → Tables → Entry → Did
house_does n t (opening (house count)) = cond (leb 1 count && leb count members) (quiet (G.Members count 0) t) (stops n Opening t)
house_does n t (opening (member m b l)) = stops n Line t
house_does n t (day d) = stops n Line t
house_does n t end = stops n Line t
house_does n t bad = stops n Line t

-- the balance and the line of the member behind k others, kept in the accounts
abbrev pub given : Tables → ℕ → ℤ → ℕ → Tables
given t k b l = tables (set (set t.accounts k b) (lines_at + k) (pos l)) t.counters t.pays

-- what opening a house of count members answers, and the tables after it
abbrev pub open_says : ℕ → ℕ → Result ℤ Refusal → Says
open_says n count (Ok sum) = S.Open n count sum
open_says n count (Err r) = refusal n r

abbrev pub open_stage : Result ℤ Refusal → Stage
open_stage (Ok sum) = G.Day
open_stage (Err r) = G.Over

-- the balances and the lines that were given
abbrev pub balances_given : ℕ → Tables → List ℤ
balances_given count t = take count t.accounts

abbrev pub lines_given : ℕ → Tables → List ℤ
lines_given count t = take count (drop lines_at t.accounts)

-- the house is opened with what was given
abbrev pub opens_to : ℕ → ℕ → Outcome (Result ℤ Refusal) → Did
opens_to n count u = says (open_says n count u.answer) (open_stage u.answer) u.after

abbrev pub open_does : ℕ → ℕ → Tables → Did
open_does n count t = opens_to n count (held (open_act count (balances_given count t) (lines_given count t)) t)

-- the member line behind k others, of count: the last one opens the house
abbrev pub given_does : ℕ → ℕ → ℕ → Tables → Did
given_does n count k t = cond (ltb (k + 1) count) (quiet (G.Members count (k + 1)) t) (open_does n count t)

-- a member line comes with the next number
abbrev pub member_does : ℕ → ℕ → ℕ → Tables → Entry → Did
member_does n count k t (opening (member m b l)) = cond (eqb m (k + 1)) (given_does n count k (given t k b l)) (stops n Line t)
member_does n count k t (opening (house m)) = stops n Line t
member_does n count k t (day d) = stops n Line t
member_does n count k t end = stops n Line t
member_does n count k t bad = stops n Line t

-- ---- the day: it goes on after a refusal

-- a call's line: what is said of it, and the tables after it
abbrev pub says_of : Outcome Says → Did
says_of u = says u.answer G.Day u.after

-- a stray or a bad line
abbrev pub strays : ℕ → Tables → Did
strays n t = says (refusal n Line) G.Day t

-- any line, once the house is open
abbrev pub day_does : ℕ → Tables → Entry → Did
day_does n t (opening o) = strays n t
day_does n t (day d) = says_of (call_does n t d)
day_does n t end = quiet (G.Ending 0) t
day_does n t bad = strays n t

-- line n, by the stage that it finds
abbrev pub does_of : ℕ → Stage → Tables → Entry → Did
does_of n G.House t e = house_does n t e
does_of n (G.Members count k) t e = member_does n count k t e
does_of n G.Day t e = day_does n t e
does_of n (G.Ending k) t e = quiet (G.Ending k) t
does_of n G.Over t e = quiet G.Over t

-- ---- at `end`

-- the balance line of member i, counted from 0: its balance, and how many of its payments wait
abbrev pub balance_says : Tables → ℕ → Says
balance_says t i = S.Balance (i + 1) (balance_of t.accounts i) (length (queue_of i (words_of t.counters t.pays)))

-- a balance line for each member, then the money
abbrev pub end_says : Tables → List Says
end_says t = listing (count_of t.counters) (balance_says t) ++ (S.Money (money_of t.accounts) ∷ [])

-- the k-th of them
abbrev pub end_at : Tables → ℕ → Says
end_at t k = cond (ltb k (count_of t.counters)) (balance_says t k) (S.Money (money_of t.accounts))

-- the stage behind it
abbrev pub end_next : List ℕ → ℕ → Stage
end_next c k = cond (ltb k (count_of c)) (G.Ending (k + 1)) G.Over
