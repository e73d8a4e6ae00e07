-- The demands of the tender, each once for tables, once for the bytes of a host in C and once for day files. A reader with the tender in the
-- other hand who believes the definitions that are imported from specs/ needs no other file.
--
-- T, U, W and X are tables (tables/specs/Layout), s and t the bytes that hold them, x and y all that a host lends. n is how many members a
-- house has, and i one of them, counted from 0. b and l are opening balances and lines. H is a house, z a set of payments: how many from the
-- head of each member's queue, v a verdict's number. k is a call (answers/specs/Outcome) or its code, r a refusal; qs and rs are requests
-- one after the other, ls and ms lines of a day file.
use mathlib.Core.Path.{◌≡◌, refl, ap}
use mathlib.Core.Bool.{not, cond}
use mathlib.Core.Logic.{◌↔◌, ◌≢◌}
use mathlib.Core.List.{List, [], ◌∷◌, ◌++◌}
use Prim.Native.Nat.{ℕ, ◌<◌}
use lib.IntN.{ℤ, pos}
use lib.Signed.{◌≤ℤ◌}
use lib.ListN.{length}
use Rattle.rule.specs.Kernel.{Counts, sum}
use Rattle.rule.specs.House.{House, AllowedSet, LargestSet, Sound, booked, sent, waits}
use Rattle.rule.specs.Verdict.{deadlocked, verdict}
use Rattle.rule.specs.Day.{at_once}
use Rattle.rule.proofs.Demands.{largest-exists, largest-one}
use Rattle.rule.proofs.Day.{at-once-sound}
use Rattle.sets.specs.Sets.{size_of, lowest_of}
use Rattle.tables.specs.Layout.{Tables, members_in, house_in, line_of, money_of, cover_of}
use Rattle.tables.specs.State.{is_state}
use Rattle.tables.specs.Holds.{Holds}
use Rattle.answers.specs.Codes.{test}
use Rattle.answers.specs.Outcome.{Act, outcome, decided, held, judgement, called}
use Rattle.answers.specs.Verdicts.{verdict_number}
use Rattle.answers.specs.declared.Refusal.{Refusal}
use Rattle.answers.specs.declared.Refusal.TheVariants.{State}
use Rattle.std.specs.Prelude.{Ok, Err}
use Rattle.answers.specs.declared.Resolution.{Resolution}
use Rattle.answers.proofs.Judging.{Given, first-bad, bad-first}
use Rattle.answers.proofs.Outcomes.{held-bad}
use Rattle.opening.specs.Open.{open_act}
use Rattle.booking.specs.Booking.{listed}
use Rattle.resolving.specs.Resolve.{resolve_act, largest_in, still_waits}
use Rattle.words.specs.Row.{put_row, as_it_is}
use Rattle.lent.specs.Bytes.{tables_in, accounts_in, signed_in, roomy}
use Rattle.lent.specs.Reply.{Lent}
use Rattle.lent.specs.Asks.{answer_parts, Ask, opens, resolves, replied, least}
use Rattle.lent.specs.Stands.{Stands}
use Rattle.days.specs.Days.{Request, after_all, made, Inside, opening_of, Begun, Ended, Equal, queue_in}
use Rattle.days.proofs.Sums.{day-money, chain-covered, chain-lines}
use Rattle.days.proofs.Openings.{begun-day, day-ends-as-at-once, days-end-equal, days-end-queues}
use Rattle.hosts.specs.Hosts.{HostCall, Chain, notes, HostDay, opening_in}
use Rattle.hosts.proofs.Demands.{refused-changes-nothing, day-sum, day-covered, ends-as-at-once, days-end, days-queues}
use Rattle.dayfile.specs.Lines.{Line}
use Rattle.dayfile.specs.Chunks.{run_of}
use Rattle.dayfile.specs.Entries as E
use Rattle.dayfile.specs.Entries.{Entry}
use Rattle.sheet.specs.declared.Says.TheVariants.{Resolve, Money}
use Rattle.sheet.specs.Lines.{text_of}
use Rattle.night.specs.declared.Stage.TheVariants.{Day as ItIsDay}
use Rattle.daylines.specs.Calls.{refusal}
use Rattle.night.specs.Lines.{says, day_does}
use Rattle.desk.specs.Sheet.{texts_of, step_of, sheet_of}
use Rattle.nights.specs.Files.{night_after, OpenAlike, Whole, LastResolves, EndsIn, balances_in, credits_in, members_of, made_after, tables_after, closing_of, closing_in}
use Rattle.nights.specs.Printed.{judged_line, says_in, read_off, Reads}
use Rattle.nights.specs.Forms.{Opening}
use Rattle.nights.proofs.Openings.{opens-begun}
use Rattle.nights.proofs.Forms.{opens-form}
use Rattle.nights.proofs.Printed.{line_refused, file-holds, file-reads, file-sheet}
use Rattle.nights.proofs.Splits.{one_split}
use Rattle.nights.proofs.Demands.{file-money, last-ended, sheets-end-alike, sheet-as-at-once}
use Rattle.demands.specs.Refusals.{code_in, judged_on}
use Rattle.demands.specs.Settles.{Settles}
use Rattle.demands.specs.Alike.{AlikeDays}
use Rattle.demands.specs.Terms.{sum_with, ResolvedTo}
use Rattle.demands.proofs.Codes.{replied-code}
use Rattle.demands.proofs.Settling.{booked-settles, resolve-answers, resolve-settles, bytes-answer, bytes-settle, told_in}

-- ==== Demand 1. Every call ends with an answer: that is the language, in which a function that might not is no program. What is wrong is
-- refused by its own code, exactly under its condition when no earlier applies, and a refused call changes nothing it was lent.

-- tables: the code of a refusal is the first of the call's, code 1 before them, whose condition holds;
pub tables-code-exact : {A : Type 0} (k : Act A) (T : Tables) (r : Refusal) → (judgement k T ≡ Err r) ↔ Given (test (not (is_state T)) State ∷ k.tests T) r
tables-code-exact k T r = (first-bad (test (not (is_state T)) State ∷ k.tests T) r, bad-first)

-- then that is the answer, and the tables are as they were;
pub tables-refused : {A : Type 0} (k : Act A) (T : Tables) {r : Refusal} → judgement k T ≡ Err r → called k T ≡ outcome (k.refuse r) T
unfolding called
tables-refused k T e = ap (decided k T) e

-- and where no condition holds the call does what it says
pub tables-accepted : {A : Type 0} (k : Act A) (T : Tables) → judgement k T ≡ Ok tt → called k T ≡ k.does T
unfolding called
tables-accepted k T e = ap (decided k T) e

-- open overwrites any tables, so its own codes, 1 and 11, are all;
pub tables-open-refused : (n : ℕ) (b l : List ℤ) (T : Tables) {r : Refusal} → Given ((open_act n b l).tests T) r → held (open_act n b l) T ≡ outcome ((open_act n b l).refuse r) T
tables-open-refused n b l T g = held-bad (open_act n b l) T (bad-first g)

-- bytes: the code is 1 where they are too short, and else that of the same judgement;
pub bytes-code-exact : (q : Ask) (x : Lent) → (replied q x).0 ≡ cond (roomy (length x.tables) (length x.answer) (least q)) (code_in (judged_on q x)) 1
bytes-code-exact q x = replied-code x q

-- and where the code is not 0, no lent byte changed, of tables, counts or answer
pub bytes-refused : (q : Ask) (x : Lent) {y : Lent} {k : ℕ} → (k, y) ≡ replied q x → k ≢ 0 → y ≡ x
bytes-refused = refused-changes-nothing

-- day files: a line is judged by its call on the tables that it finds, and a stray or bad line is 12; where that refuses it, it prints
-- `refused` with the code and changes nothing, and the day goes on;
pub files-refused : {T : Tables} → Holds T → (i : ℕ) (e : Entry) {r : Refusal} → judged_line T e ≡ Err r → day_does i T e ≡ says (refusal i r) ItIsDay T
files-refused h i e q = line_refused h i e q

-- and the tables that it finds, after any first lines of the day, hold a state
pub files-hold : {opening day : List Line} {file : List ℕ} → Whole opening day file → (ls ms : List Line) → day ≡ ls ++ ms → Holds (run_of step_of (night_after opening) ls).tables
files-hold w = file-holds w

-- ==== Demand 2. A resolution settles the largest allowed set; deadlock is told exactly when payments wait and no allowed set but the empty
-- one exists; the sum of balances is always the opening sum plus accepted deposits.

-- a house in which each member is at or above minus its line has a largest allowed set, inside which every allowed set lies,
pub a-largest-set : {n : ℕ} {H : House} → Sound n H → (z : Counts) × LargestSet n H z
a-largest-set = largest-exists

-- and only one
pub the-largest-set : {n : ℕ} {H : House} {z y : Counts} → LargestSet n H z → LargestSet n H y → (i : ℕ) → i < n → z i ≡ y i
the-largest-set = largest-one

-- tables: an accepted resolution books it, and its answer has the verdict;
pub tables-settle : (c : List ℕ) (T : Tables) → judgement (resolve_act c) T ≡ Ok tt
    → (x : Resolution) × ((called (resolve_act c) T).answer.0 ≡ Ok x) × Settles T (called (resolve_act c) T).after (verdict_number x.verdict)
tables-settle c T e = (told_in T, ap (λ a. a.0) (resolve-answers c T e), resolve-settles c T e)

-- bytes: so does one with code 0, and the verdict is the first part of the answer
pub bytes-settles : {s t : List ℕ} (c : HostCall resolves 0 s t) → Stands s
    → (x : Resolution) × (c.answer' ≡ put_row as_it_is 8 c.answer 0 (answer_parts x)) × Settles (tables_in s) (tables_in t) (verdict_number x.verdict)
bytes-settles {s} c h = (told_in (tables_in s), bytes-answer c, bytes-settle c h)

-- day files: so does a `resolve` line, which prints the verdict
pub files-settle : {T : Tables} → Holds T → (i : ℕ)
    → let n = members_in T in let H = house_in T in let z = listed (largest_in T) in let d = day_does i T (E.day E.resolve) in
    (d.said ≡ Resolve i (verdict n H z) (sum n z) (sum n (sent H z)) (size_of n (still_waits H z)) (lowest_of n (still_waits H z)) ∷ [])
    × Settles T d.after (verdict n H z)
files-settle h i = (refl, booked-settles h)

-- wherever a resolution settles, the verdict is deadlocked exactly then
pub deadlock-exact : {T W : Tables} {v : ℕ} → Settles T W v
    → (v ≡ deadlocked) ↔ ((0 < sum (members_in T) (waits (house_in T))) × ((y : Counts) → AllowedSet (members_in T) (house_in T) y → sum (members_in T) y ≡ 0))
deadlock-exact s = s.says.if_deadlocked

-- tables: the sum after an accepted open and any requests, accepted or refused, of which none opens again;
pub tables-sum : {n : ℕ} {b l : List ℤ} {T : Tables} → Begun n b l T → (qs : List Request) → Inside qs T → money_of (after_all qs T).accounts ≡ sum_with n b (made qs T)
tables-sum = day-money

-- bytes: after an accepted open and any calls;
pub bytes-sum : {n : ℕ} {u v s t e : List ℕ} → HostCall (opens n u v) 0 s t → (d : Chain t e) → money_of (accounts_in e) ≡ sum_with n (signed_in u) (notes d)
bytes-sum c d = day-sum c d

-- day files: the sheet of one that comes to `end` ends in it
pub files-sum : {opening day : List Line} {file : List ℕ} → Whole opening day file
    → EndsIn (sheet_of file) (text_of (Money (sum_with (members_of opening) (balances_in opening) (made_after opening day))))
files-sum = file-money

-- ==== Demand 3. Two days that open alike and accept equal deposit totals for each member, and the same payments in the same order for each
-- payer, with an accepted resolution as the last call of both, end with equal balances and equal queues: those that rule 2 gives for the
-- opening balances, all deposits and all payments taken at once. Releases, groups and resolutions may fall anywhere; lines stay as opened.

module _ {n : ℕ} {b l : List ℤ} {T U W X : Tables} {qs rs : List Request} (o : Begun n b l T) (p : Begun n b l U) (d : Ended T qs W) (e : Ended U rs X)
    (alike : AlikeDays n (made qs T) (made rs U)) where
  -- tables: lines, balances and queues are equal,
  pub tables-end-equal : Equal W X
  tables-end-equal = days-end-equal o p d e alike.totals alike.paid

  -- payment by payment: payer, number, payee and amount;
  pub tables-queues-equal : (i : ℕ) → i < n → queue_in W i ≡ queue_in X i
  tables-queues-equal = days-end-queues o p d e alike.totals alike.paid

-- there is a largest set for all taken at once, and what it leaves is in the tables;
pub tables-as-at-once : {n : ℕ} {b l : List ℤ} {T W : Tables} {qs : List Request} → Begun n b l T → Ended T qs W
    → ResolvedTo n (at_once (opening_of b l) (made qs T)) (house_in W)
tables-as-at-once o d = day-ends-as-at-once o d

-- and from any state on lines stay, and each member is at or above minus its line
pub tables-lines-stay : {T : Tables} → Holds T → (qs : List Request) → Inside qs T → (i : ℕ) → i < members_in T → line_of (after_all qs T).accounts i ≡ line_of T.accounts i
tables-lines-stay = chain-lines

pub tables-covered : {T : Tables} → Holds T → (qs : List Request) → Inside qs T → (i : ℕ) → i < members_in T → pos 0 ≤ℤ cover_of (after_all qs T).accounts i
tables-covered = chain-covered

module _ {n : ℕ} {u v s t : List ℕ} (d : HostDay n u v s) (e : HostDay n u v t)
    (alike : AlikeDays n (notes d.calls) (notes e.calls)) where
  -- bytes: the same of two days of exported calls, each on the bytes as the one before left them,
  pub bytes-end-equal : Equal (tables_in s) (tables_in t)
  bytes-end-equal = days-end d e alike.totals alike.paid

  pub bytes-queues-equal : (i : ℕ) → i < n → queue_in (tables_in s) i ≡ queue_in (tables_in t) i
  bytes-queues-equal = days-queues d e alike.totals alike.paid

pub bytes-as-at-once : {n : ℕ} {u v t : List ℕ} (d : HostDay n u v t)
    → ResolvedTo n (at_once (opening_in u v) (notes d.calls)) (house_in (tables_in t))
bytes-as-at-once d = ends-as-at-once d

-- and each member is at or above minus its line after any calls
pub bytes-covered : {n : ℕ} {u v s t e : List ℕ} → HostCall (opens n u v) 0 s t → (d : Chain t e) → (i : ℕ) → i < n → pos 0 ≤ℤ cover_of (accounts_in e) i
bytes-covered c d = day-covered c d

-- day files: of two whose last request is `resolve`, the closing lines, every `balance` line and the `money` line, are the same bytes,
pub files-end-alike : {opening opening₁ day day₁ : List Line} {file file₁ : List ℕ} → Whole opening day file → Whole opening₁ day₁ file₁ → OpenAlike opening opening₁
    → LastResolves opening day → LastResolves opening₁ day₁ → AlikeDays (members_of opening) (made_after opening day) (made_after opening₁ day₁)
    → EndsIn (sheet_of file) (closing_of (tables_after opening day)) × EndsIn (sheet_of file₁) (closing_of (tables_after opening day))
files-end-alike w v o r s alike = sheets-end-alike w v o r s alike.totals alike.paid

-- which are fixed by the file: it has one opening and one day;
pub files-split : {opening opening₁ day day₁ : List Line} {file : List ℕ} → Whole opening day file → Whole opening₁ day₁ file → (opening ≡ opening₁) × (day ≡ day₁)
files-split = one_split

-- the opening is a house line with its count, and that many member lines in order;
pub files-open : {opening day : List Line} {file : List ℕ} → Whole opening day file → Opening opening
files-open w = opens-form w.opens

-- what it accepted is read off its `queued` and `deposited` lines,
pub files-read : {opening day : List Line} {file : List ℕ} → Whole opening day file → Reads (made_after opening day) (read_off (night_after opening) day)
files-read = file-reads

-- and its sheet is what the opening printed, what each line of the day printed, and the closing lines;
pub files-sheet : {opening day : List Line} {file : List ℕ} → Whole opening day file
    → sheet_of file ≡ ((night_after opening).sheet ++ texts_of (says_in (night_after opening) day)) ++ closing_of (tables_after opening day)
files-sheet = file-sheet

-- and these are those of the house that rule 2 gives for all taken at once
pub files-as-at-once : {opening day : List Line} {file : List ℕ} → Whole opening day file → LastResolves opening day
    → let n = members_of opening in let H = at_once (opening_of (balances_in opening) (credits_in opening)) (made_after opening day) in
    (z : Counts) × LargestSet n H z × EndsIn (sheet_of file) (closing_in n (booked n H z))
files-as-at-once {opening} {day} w r =
    let z = largest-exists (at-once-sound (begun-day (opens-begun w.opens) (last-ended w.opens r)).sound (made_after opening day)) in
    (z.0, z.1, sheet-as-at-once w r z.1)
