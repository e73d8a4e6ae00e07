-- What is said on the sheet of each call of the day, and the tables after it (document 01, "The day file and the sheet").
use Rattle.std.specs.Prelude.{cond, List, ℕ, ltb, ℤ, Ok, Err, Result, ⊤}
use Rattle.std.specs.Int.Count.{ones}
use Rattle.rule.specs.Kernel.{Counts, sum}
use Rattle.rule.specs.House.{House, sent}
use Rattle.rule.specs.Verdict.{verdict}
use Rattle.sets.specs.Sets.{size_of, lowest_of, lowest_in}
use Rattle.booking.specs.Booking.{listed, booked_in}
use Rattle.tables.specs.Layout.{Tables, members_in, house_in}
use Rattle.answers.specs.Codes.{code_of}
use Rattle.answers.specs.Outcome.{Outcome, outcome, held}
use Rattle.answers.specs.Verdicts.{verdict_number}
use Rattle.answers.specs.declared.Refusal.{Refusal}
use Rattle.answers.specs.declared.Released.{Released}
use Rattle.answers.specs.declared.Grouped.{Grouped}
use Rattle.answers.specs.declared.Resolution.{Resolution}
use Rattle.entry.specs.Deposit.{deposit_act}
use Rattle.entry.specs.Submit.{submit_act}
use Rattle.settling.specs.Release.{release_act}
use Rattle.settling.specs.Group.{group_act}
use Rattle.resolving.specs.Resolve.{largest_in, still_waits}
use Rattle.dayfile.specs.Entries.{DayLine, pay, deposit, release, group, resolve}
use Rattle.sheet.specs.declared.Says.{Says}
use Rattle.sheet.specs.declared.Says.TheVariants as S

-- line n is refused
abbrev pub refusal : ℕ → Refusal → Says
refusal n r = S.Refused n (code_of r)

-- what is said of a call's answer, and the tables after it
abbrev pub saying : {A : Type 0} → (A → Says) → Outcome A → Outcome Says
saying say u = outcome (say u.answer) u.after

abbrev pub pay_says : ℕ → ℕ → ℕ → Result ⊤ Refusal → Says
pay_says n m k (Ok u) = S.Queued n m k
pay_says n m k (Err r) = refusal n r

-- payer m gives number k to a payment of x to q
abbrev pub pay_does : ℕ → Tables → ℕ → ℕ → ℕ → ℕ → Outcome Says
pay_does n t m k q x = saying (pay_says n m k) (held (submit_act m k q x) t)

abbrev pub deposit_says : ℕ → ℕ → Result ℤ Refusal → Says
deposit_says n m (Ok b) = S.Deposited n m b
deposit_says n m (Err r) = refusal n r

-- x is given to member m
abbrev pub deposit_does : ℕ → Tables → ℕ → ℕ → Outcome Says
deposit_does n t m x = saying (deposit_says n m) (held (deposit_act m x) t)

abbrev pub release_says : ℕ → Result Released Refusal → Says
release_says n (Ok d) = S.Released n d.payer d.number d.amount
release_says n (Err r) = refusal n r

-- the head of member m
abbrev pub release_does : ℕ → Tables → ℕ → Outcome Says
release_does n t m = saying (release_says n) (held (release_act m) t)

abbrev pub group_says : ℕ → Result Grouped Refusal → Says
group_says n (Ok d) = S.Group n d.payments d.sum
group_says n (Err r) = refusal n r

-- that many from each head, as the numbers read say
abbrev pub group_does : ℕ → Tables → List ℕ → Outcome Says
group_does n t k = saying (group_says n) (held (group_act k) t)

-- the largest count in 16 bits, which is more than ever waits
abbrev pub most_count : ℕ
most_count = 65_535

-- a count in 16 bits: the smaller of it and that
abbrev pub capped : ℕ → ℕ
capped x = cond (ltb x most_count) x most_count

-- the verdict, how many payments, their sum, how many members still wait, and the lowest of them
abbrev pub resolve_says : ℕ → ℕ → House → Counts → Says
resolve_says n m H z = S.Resolve n (verdict m H z) (sum m z) (sum m (sent H z)) (size_of m (still_waits H z)) (lowest_of m (still_waits H z))

-- the same from what the call tells
abbrev pub resolution_says : ℕ → Resolution → Says
resolution_says n x = S.Resolve n (verdict_number x.verdict) x.payments x.sum (ones x.waiting) (lowest_in x.waiting)

-- the largest allowed set is booked
abbrev pub resolve_does : ℕ → Tables → Outcome Says
resolve_does n t = outcome (resolve_says n (members_in t) (house_in t) (listed (largest_in t))) (booked_in t (listed (largest_in t)))

-- a line of the day is one call
abbrev pub call_does : ℕ → Tables → DayLine → Outcome Says
call_does n t (pay kind m k q x) = pay_does n t m k q x
call_does n t (deposit m x) = deposit_does n t m x
call_does n t (release m) = release_does n t m
call_does n t (group k) = group_does n t k
call_does n t resolve = resolve_does n t
