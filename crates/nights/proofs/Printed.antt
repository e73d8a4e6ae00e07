-- What a line prints is how it was judged, so that the accepted deposits and payments can be read off a file and its sheet.
use mathlib.Core.Path.{◌≡◌, refl, sym, ap, ◌∙◌, subst}
use mathlib.Core.Bool.{false}
use mathlib.Core.List.{List, [], ◌∷◌, ◌++◌, append-nil, append_assoc}
use Prim.Native.Nat.{ℕ, ◌+◌, ◌-◌, ◌≤◌, ◌<◌}
use native.Mathlib.Omega.{arith}
use lib.ListN.{length, replicate, length-append}
use Rattle.rule.specs.Lists.{Each}
use Rattle.rule.specs.Kernel.{Counts}
use Rattle.rule.specs.Payment.{word}
use Rattle.rule.specs.Day.{Call, deposit, submit, settle, deposits, payments}
use Rattle.tables.specs.Layout.{Tables, members_in}
use Rattle.tables.specs.Holds.{Holds}
use Rattle.answers.specs.Outcome.{Outcome, outcome, Act, decided, held, judgement}
use Rattle.answers.specs.declared.Refusal.{Refusal}
use Rattle.answers.specs.declared.Refusal.TheVariants.{Line as BadLine}
use Rattle.std.specs.Prelude.{Ok, Err}
use Rattle.answers.specs.Codes.{Judged}
use Rattle.answers.proofs.Outcomes.{judgement-held}
use Rattle.entry.specs.Deposit.{deposit_act}
use Rattle.entry.specs.Submit.{submit_act}
use Rattle.settling.specs.Release.{release_act, only_head}
use Rattle.settling.specs.Group.{group_act, book_act}
use Rattle.booking.specs.Booking.{listed}
use Rattle.resolving.specs.Resolve.{resolve_act, largest_in}
use Rattle.dayfile.specs.Entries as E
use Rattle.dayfile.specs.Entries.{most_lines, DayLine, Entry}
use Rattle.sheet.specs.declared.Says.{Says}
use Rattle.sheet.specs.Lines.{text_of}
use Rattle.dayfile.specs.Lines.{Line, lines_of}
use Rattle.dayfile.specs.Chunks.{run_of}
use Rattle.night.specs.declared.Stage.{Stage}
use Rattle.night.specs.declared.Stage.TheVariants as G
use Rattle.daylines.specs.Calls.{refusal, saying, pay_says, deposit_says, release_says, group_says, call_does}
use Rattle.night.specs.Lines.{says, day_does}
use Rattle.night.specs.Stages.{rest_says}
use Rattle.desk.specs.Sheet.{Night, texts_of, entry_in, step_of, morning, closed, sheet_of}
use Rattle.days.specs.Days.{accepted, made}
use Rattle.days.proofs.Joins.{deposits-join, payments-join}
use Rattle.days.proofs.Chains.{chain-carries, made-join}
use Rattle.days.proofs.Openings.{begun-stands, begun-members}
use Rattle.nights.specs.Files.{request_of, requests_of, requests_in, is_end, night_after, members_of, Whole, made_after, tables_after, closing_of}
use Rattle.nights.specs.Printed.{judged_call, judged_line, printed_as, printed_by, says_in, if_queued, if_deposited, read_call, read_line, read_off, Reads}
use Rattle.nights.proofs.Calls.{day-stays}
use Rattle.nights.proofs.Requests.{line-inside}
use Rattle.nights.proofs.Runs.{run_join, run-few, step-day, line-gone, end-closes}
use Rattle.nights.proofs.Openings.{opens-begun}
use Rattle.nights.proofs.Demands.{day-gone}

-- ---- one line

module _ {t : Tables} (h : Holds t) (i : ℕ) where
  -- a call's line, by how it was judged
  judged-line : {A : Type 0} (say : A → Says) (k : Act A) → saying say (held k t) ≡ saying say (decided k t (judgement k t))
  unfolding held
  judged-line say k = ap (λ (j : Judged). saying say (decided k t j)) (sym (judgement-held k t h))

  pay-says : (kind m k q x : ℕ) (j : Judged) → (saying (pay_says i m k) (decided (submit_act m k q x) t j)).answer ≡ printed_as i t (E.pay kind m k q x) j
  unfolding submit_act
  pay-says kind m k q x (Ok u) = refl
  pay-says kind m k q x (Err r) = refl

  deposit-says : (m x : ℕ) (j : Judged) → (saying (deposit_says i m) (decided (deposit_act m x) t j)).answer ≡ printed_as i t (E.deposit m x) j
  unfolding deposit_act
  deposit-says m x (Ok u) = refl
  deposit-says m x (Err r) = refl

  release-says : (m : ℕ) (j : Judged) → (saying (release_says i) (decided (release_act m) t j)).answer ≡ printed_as i t (E.release m) j
  unfolding release_act
  release-says m (Ok u) = refl
  release-says m (Err r) = refl

  group-says : (k : List ℕ) (j : Judged) → (saying (group_says i) (decided (group_act k) t j)).answer ≡ printed_as i t (E.group k) j
  unfolding group_act book_act
  group-says k (Ok u) = refl
  group-says k (Err r) = refl

  abbrev answer_of : Outcome Says → Says
  answer_of u = u.answer

  -- a line of the day prints what its judgement says: exactly an accepted payment prints `queued`, and an accepted deposit `deposited`
  pub call-prints : (d : DayLine) → (call_does i t d).answer ≡ printed_as i t d (judged_call t d)
  call-prints (E.pay kind m k q x) = ap answer_of (judged-line (pay_says i m k) (submit_act m k q x)) ∙ pay-says kind m k q x (judgement (submit_act m k q x) t)
  call-prints (E.deposit m x) = ap answer_of (judged-line (deposit_says i m) (deposit_act m x)) ∙ deposit-says m x (judgement (deposit_act m x) t)
  call-prints (E.release m) = ap answer_of (judged-line (release_says i) (release_act m)) ∙ release-says m (judgement (release_act m) t)
  call-prints (E.group k) = ap answer_of (judged-line (group_says i) (group_act k)) ∙ group-says k (judgement (group_act k) t)
  call-prints E.resolve = refl

  -- a refused line prints its code, and changes nothing
  refused-does : {A : Type 0} (say : A → Says) (k : Act A) {r : Refusal} → judgement k t ≡ Err r → saying say (held k t) ≡ saying say (outcome (k.refuse r) t)
  refused-does say k e = judged-line say k ∙ ap (λ (j : Judged). saying say (decided k t j)) e

  call-refused : (d : DayLine) {r : Refusal} → judged_call t d ≡ Err r → call_does i t d ≡ outcome (refusal i r) t
  unfolding submit_act deposit_act release_act group_act book_act
  call-refused (E.pay kind m k q x) e = refused-does (pay_says i m k) (submit_act m k q x) e
  call-refused (E.deposit m x) e = refused-does (deposit_says i m) (deposit_act m x) e
  call-refused (E.release m) e = refused-does (release_says i) (release_act m) e
  call-refused (E.group k) e = refused-does (group_says i) (group_act k) e
  call-refused E.resolve e = absurd (let z : ◌≡◌ {A = ℕ} 0 1 = cc in omega arith)

  pub line_refused : (e : Entry) {r : Refusal} → judged_line t e ≡ Err r → day_does i t e ≡ says (refusal i r) G.Day t
  line_refused (E.opening o) {r} q = let e : BadLine ≡ r = cc in ap (λ (r : Refusal). says (refusal i r) G.Day t) e
  line_refused (E.day d) q = ap (λ (u : Outcome Says). says u.answer G.Day u.after) (call-refused d q)
  line_refused E.end q = absurd (let z : ◌≡◌ {A = ℕ} 0 1 = cc in omega arith)
  line_refused E.bad {r} q = let e : BadLine ≡ r = cc in ap (λ (r : Refusal). says (refusal i r) G.Day t) e

-- ---- what is read off a line

reads_same : {cs ds : List Call} → cs ≡ ds → Reads cs ds
reads_same e = record { totals = λ k. ap (λ (l : List Call). deposits l k) e; paid = λ k. ap (λ (l : List Call). payments l k) e }

reads-join : (es bs cs ds : List Call) → Reads es bs → Reads cs ds → Reads (es ++ cs) (bs ++ ds)
reads-join es bs cs ds r q = record {
  totals = λ k. deposits-join es cs k ∙ omega (arith, r.totals k, q.totals k) ∙ sym (deposits-join bs ds k);
  paid = λ k. payments-join es cs k ∙ ap (λ (l : List ℕ). l ++ payments cs k) (r.paid k) ∙ ap (λ (l : List ℕ). payments bs k ++ l) (q.paid k) ∙ sym (payments-join bs ds k);
}

reads-settled : (j : Judged) (z : Counts) → Reads (accepted j (settle z ∷ []) ++ []) []
reads-settled (Ok u) z = record { totals = λ k. refl; paid = λ k. refl }
reads-settled (Err r) z = record { totals = λ k. refl; paid = λ k. refl }

module _ {t : Tables} (h : Holds t) (i n : ℕ) where
  read-pay : (kind m k q x : ℕ) (c : List Call) (j : Judged) → accepted j c ++ [] ≡ if_queued (printed_as i t (E.pay kind m k q x) j ∷ []) c
  read-pay kind m k q x c (Ok u) = append-nil c
  read-pay kind m k q x c (Err r) = refl

  read-deposit : (m x : ℕ) (c : List Call) (j : Judged) → accepted j c ++ [] ≡ if_deposited (printed_as i t (E.deposit m x) j ∷ []) c
  read-deposit m x c (Ok u) = append-nil c
  read-deposit m x c (Err r) = refl

  call-reads : (d : DayLine) → Reads (made (request_of n d ∷ []) t) (read_call d ((call_does i t d).answer ∷ []))
  call-reads (E.pay kind m k q x) =
      let c : List Call = submit (word (m - 1) (q - 1) x) ∷ [] in
      reads_same (read-pay kind m k q x c (judgement (submit_act m k q x) t) ∙ ap (λ (s : Says). if_queued (s ∷ []) c) (sym (call-prints h i (E.pay kind m k q x))))
  call-reads (E.deposit m x) =
      let c : List Call = deposit (m - 1) x ∷ [] in
      reads_same (read-deposit m x c (judgement (deposit_act m x) t) ∙ ap (λ (s : Says). if_deposited (s ∷ []) c) (sym (call-prints h i (E.deposit m x))))
  call-reads (E.release m) = reads-settled (judgement (release_act m) t) (only_head m)
  call-reads (E.group k) = reads-settled (judgement (group_act k) t) (listed k)
  call-reads E.resolve = reads-settled (judgement (resolve_act (replicate n 0)) t) (listed (largest_in t))

  line_reads : (e : Entry) → Reads (made (requests_of n e) t) (read_line e (day_does i t e).said)
  line_reads (E.opening o) = reads_same refl
  line_reads (E.day d) = call-reads d
  line_reads E.end = reads_same refl
  line_reads E.bad = reads_same refl

-- ---- and off the lines of a day

texts-join : (ss ts : List Says) → texts_of (ss ++ ts) ≡ texts_of ss ++ texts_of ts
texts-join [] ts = refl
texts-join (s ∷ ss) ts = ap (λ (l : List ℕ). text_of s ++ l) (texts-join ss ts) ∙ sym (append_assoc (text_of s) (texts_of ss) (texts_of ts))

-- what a line prints comes behind the sheet so far
line-sheet : (d : Night) (l : Line) → d.stage ≡ G.Day → d.lines < most_lines → is_end (entry_in l) ≡ false → (step_of d l).sheet ≡ d.sheet ++ texts_of (printed_by d l)
line-sheet d l day few on =
    let r = day_does (d.lines + 1) d.tables (entry_in l) in
    let g : r.stage ≡ G.Day = day-stays (d.lines + 1) d.tables (entry_in l) on in
    ap (λ (x : Night). x.sheet) (step-day d l day few)
    ∙ ap (λ (s : Stage). (d.sheet ++ texts_of r.said) ++ texts_of (rest_says s r.after)) g
    ∙ append-nil (d.sheet ++ texts_of r.said)

-- the lines of a day from d on: the tables hold a state after them, they print one after the other, and what was accepted is read off
pub record Prints (n : ℕ) (d : Night) (ls : List Line) : Type 0 where
  pub holds : Holds (run_of step_of d ls).tables
  pub sheet : (run_of step_of d ls).sheet ≡ d.sheet ++ texts_of (says_in d ls)
  pub reads : Reads (made (requests_in n ls) d.tables) (read_off d ls)

pub lines-print : {n : ℕ} (d : Night) (ls : List Line) → d.stage ≡ G.Day → Holds d.tables → members_in d.tables ≡ n → Each (λ l. is_end (entry_in l) ≡ false) ls
    → d.lines + length ls ≤ most_lines → Prints n d ls
unfolding run_of
lines-print d [] day h q on few = record { holds = h; sheet = sym (append-nil d.sheet); reads = reads_same refl }
lines-print {n} d (l ∷ ls) day h q on few =
    let qs = requests_of n (entry_in l) in
    let g = line-gone d l day (omega arith) h q on.0 in
    let c = chain-carries h qs (line-inside n (entry_in l) d.tables) in
    let k = lines-print {n = n} (step_of d l) ls g.stage (subst Holds (sym g.after) c.stands) (ap members_in g.after ∙ c.members ∙ q) on.1 (omega (arith, g.lines)) in
    let s = printed_by d l in
    let m : made (qs ++ requests_in n ls) d.tables ≡ made qs d.tables ++ made (requests_in n ls) (step_of d l).tables =
    made-join qs (requests_in n ls) d.tables ∙ ap (λ (T : Tables). made qs d.tables ++ made (requests_in n ls) T) (sym g.after) in
    let r = reads-join (made qs d.tables) (read_line (entry_in l) s) (made (requests_in n ls) (step_of d l).tables) (read_off (step_of d l) ls)
    (line_reads h (d.lines + 1) n (entry_in l)) k.reads in
    record {
      holds = k.holds;
      sheet =
          k.sheet ∙ ap (λ (z : List ℕ). z ++ texts_of (says_in (step_of d l) ls)) (line-sheet d l day (omega arith) on.0)
          ∙ append_assoc d.sheet (texts_of s) (texts_of (says_in (step_of d l) ls))
          ∙ ap (λ (z : List ℕ). d.sheet ++ z) (sym (texts-join s (says_in (step_of d l) ls)));
      reads = subst (λ (cs : List Call). Reads cs (read_off d (l ∷ ls))) (sym m) r;
    }

-- ---- a file

each_first : (P : Line → Type 0) (ls ms : List Line) → Each P (ls ++ ms) → Each P ls
each_first P [] ms e = tt
each_first P (l ∷ ls) ms (p, e) = (p, each_first P ls ms e)

module _ {opening day : List Line} {file : List ℕ} (w : Whole opening day file) where
  abbrev eve : Night
  eve = run_of step_of (night_after opening) day

  pub file-prints : Prints (members_of opening) (night_after opening) day
  file-prints =
      let b = opens-begun w.opens in
      lines-print (night_after opening) day w.opens.opens (begun-stands b) (begun-members b) w.goes_on (omega (arith, run-few morning opening, w.few))

  -- after any first lines of its day the tables hold a state
  pub file-holds : (ls ms : List Line) → day ≡ ls ++ ms → Holds (run_of step_of (night_after opening) ls).tables
  file-holds ls ms e =
      let b = opens-begun w.opens in
      let on = each_first (λ l. is_end (entry_in l) ≡ false) ls ms (subst (Each (λ l. is_end (entry_in l) ≡ false)) e w.goes_on) in
      let f : (night_after opening).lines + length ls ≤ most_lines = omega (arith, run-few morning opening, w.few, ap length e, length-append ls ms) in
      (lines-print (night_after opening) ls w.opens.opens (begun-stands b) (begun-members b) on f).holds

  -- the accepted deposits and payments of a file are those that are read off it and its sheet,
  pub file-reads : Reads (made_after opening day) (read_off (night_after opening) day)
  file-reads = file-prints.reads

  -- which has, behind what the opening printed, what each line of the day printed, and then the closing lines
  pub file-sheet : sheet_of file ≡ ((night_after opening).sheet ++ texts_of (says_in (night_after opening) day)) ++ closing_of (tables_after opening day)
  file-sheet =
      let g = day-gone day w.opens w.goes_on (omega (arith, w.few)) in
      let f : eve.lines < most_lines = omega (arith, g.lines, run-few morning opening, w.few) in
      let r : night_after (lines_of file) ≡ run_of step_of eve (w.last ∷ w.rest) =
      ap night_after w.parts ∙ run_join morning opening (day ++ (w.last ∷ w.rest)) ∙ run_join (night_after opening) day (w.last ∷ w.rest) in
      ap closed r ∙ end-closes eve w.last g.stage f w.rest w.ends
      ∙ ap (λ (l : List ℕ). l ++ closing_of eve.tables) (append-nil eve.sheet ∙ file-prints.sheet)
      ∙ ap (λ (T : Tables). ((night_after opening).sheet ++ texts_of (says_in (night_after opening) day)) ++ closing_of T) g.after
