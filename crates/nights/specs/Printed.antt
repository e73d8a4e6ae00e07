-- What the lines of a day print, and what can be read off a file and its sheet: the accepted deposits and payments. i is the number of a
-- line, t the tables that it finds.
use Rattle.std.specs.Prelude.{◌≡◌, List, [], ◌∷◌, ◌++◌, ℕ, ◌+◌, ◌-◌, pos, ◌+ℤ◌, Ok, Err}
use Rattle.rule.specs.Kernel.{sum}
use Rattle.rule.specs.House.{sent}
use Rattle.rule.specs.Payment.{word}
use Rattle.rule.specs.Day.{Call, deposit, submit, deposits, payments}
use Rattle.tables.specs.Layout.{Tables, members_in, house_in, balance_of, settled_of}
use Rattle.booking.specs.Booking.{listed}
use Rattle.answers.specs.Outcome.{judgement}
use Rattle.answers.specs.declared.Refusal.TheVariants.{Line as BadLine}
use Rattle.answers.specs.Codes.{Judged}
use Rattle.entry.specs.Deposit.{deposit_act}
use Rattle.entry.specs.Submit.{submit_act}
use Rattle.settling.specs.Release.{release_act, head_amount}
use Rattle.settling.specs.Group.{group_act}
use Rattle.resolving.specs.Resolve.{largest_in}
use Rattle.dayfile.specs.Entries as E
use Rattle.dayfile.specs.Entries.{DayLine, Entry}
use Rattle.sheet.specs.declared.Says.{Says}
use Rattle.sheet.specs.declared.Says.TheVariants as S
use Rattle.dayfile.specs.Lines.{Line}
use Rattle.daylines.specs.Calls.{refusal, resolve_says}
use Rattle.night.specs.Lines.{day_does}
use Rattle.desk.specs.Sheet.{Night, entry_in, step_of}

-- ---- one line

-- how a line of the day is judged: by its call; a stray or a bad line is 12
abbrev pub judged_call : Tables → DayLine → Judged
judged_call t (E.pay kind m k q x) = judgement (submit_act m k q x) t
judged_call t (E.deposit m x) = judgement (deposit_act m x) t
judged_call t (E.release m) = judgement (release_act m) t
judged_call t (E.group k) = judgement (group_act k) t
judged_call t E.resolve = Ok tt

abbrev pub judged_line : Tables → Entry → Judged
judged_line t (E.opening o) = Err BadLine
judged_line t (E.day d) = judged_call t d
judged_line t E.end = Ok tt
judged_line t E.bad = Err BadLine

-- what it prints where it is accepted
abbrev pub accepted_says : ℕ → Tables → DayLine → Says
accepted_says i t (E.pay kind m k q x) = S.Queued i m k
accepted_says i t (E.deposit m x) = S.Deposited i m (balance_of t.accounts (m - 1) +ℤ pos x)
accepted_says i t (E.release m) = S.Released i m (settled_of t.counters (m - 1) + 1) (head_amount t m)
accepted_says i t (E.group k) = S.Group i (sum (members_in t) (listed k)) (sum (members_in t) (sent (house_in t) (listed k)))
accepted_says i t E.resolve = resolve_says i (members_in t) (house_in t) (listed (largest_in t))

-- so judged, a call prints one line: that, or `refused` and its code
abbrev pub printed_as : ℕ → Tables → DayLine → Judged → Says
printed_as i t d (Ok u) = accepted_says i t d
printed_as i t d (Err r) = refusal i r

-- ---- the lines of a day

-- what the next line prints,
abbrev pub printed_by : Night → Line → List Says
printed_by d l = (day_does (d.lines + 1) d.tables (entry_in l)).said

-- and some lines, one after the other
abbrev pub says_in : Night → List Line → List Says
says_in d [] = []
says_in d (l ∷ ls) = printed_by d l ++ says_in (step_of d l) ls

-- ---- what is read off

-- cs where `queued` was printed,
abbrev pub if_queued : List Says → List Call → List Call
if_queued [] cs = []
if_queued (S.Open i n z ∷ ss) cs = []
if_queued (S.Queued i m k ∷ ss) cs = cs
if_queued (S.Deposited i m b ∷ ss) cs = []
if_queued (S.Released i m k x ∷ ss) cs = []
if_queued (S.Group i k x ∷ ss) cs = []
if_queued (S.Resolve i v k x w m ∷ ss) cs = []
if_queued (S.Refused i c ∷ ss) cs = []
if_queued (S.Balance m b k ∷ ss) cs = []
if_queued (S.Money z ∷ ss) cs = []

-- and where `deposited` was
abbrev pub if_deposited : List Says → List Call → List Call
if_deposited [] cs = []
if_deposited (S.Open i n z ∷ ss) cs = []
if_deposited (S.Queued i m k ∷ ss) cs = []
if_deposited (S.Deposited i m b ∷ ss) cs = cs
if_deposited (S.Released i m k x ∷ ss) cs = []
if_deposited (S.Group i k x ∷ ss) cs = []
if_deposited (S.Resolve i v k x w m ∷ ss) cs = []
if_deposited (S.Refused i c ∷ ss) cs = []
if_deposited (S.Balance m b k ∷ ss) cs = []
if_deposited (S.Money z ∷ ss) cs = []

-- of a line and what it printed: a payment that was queued, or a deposit that was made
abbrev pub read_call : DayLine → List Says → List Call
read_call (E.pay kind m k q x) ss = if_queued ss (submit (word (m - 1) (q - 1) x) ∷ [])
read_call (E.deposit m x) ss = if_deposited ss (deposit (m - 1) x ∷ [])
read_call (E.release m) ss = []
read_call (E.group k) ss = []
read_call E.resolve ss = []

abbrev pub read_line : Entry → List Says → List Call
read_line (E.opening o) ss = []
read_line (E.day d) ss = read_call d ss
read_line E.end ss = []
read_line E.bad ss = []

-- of some lines and what they printed
abbrev pub read_off : Night → List Line → List Call
read_off d [] = []
read_off d (l ∷ ls) = read_line (entry_in l) (printed_by d l) ++ read_off (step_of d l) ls

-- cs and ds have the same deposits and payments
pub record Reads (cs ds : List Call) : Type 0 where
  pub totals : (k : ℕ) → deposits cs k ≡ deposits ds k
  pub paid : (k : ℕ) → payments cs k ≡ payments ds k
