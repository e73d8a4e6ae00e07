-- The demands for day files, over the sheet of all their bytes.
use mathlib.Core.Path.{◌≡◌, refl, sym, ap, ◌∙◌, subst}
use mathlib.Core.Bool.{false}
use mathlib.Core.List.{List, [], ◌∷◌, ◌++◌, append-nil, append_assoc}
use Prim.Native.Nat.{ℕ, ◌+◌, ◌≤◌, ◌<◌}
use native.Mathlib.Omega.{arith}
use lib.IntN.{ℤ, pos, ◌+ℤ◌}
use lib.ListN.{length, replicate}
use Rattle.rule.specs.Lists.{listing, Each}
use Rattle.rule.specs.Kernel.{Counts, sum}
use Rattle.rule.specs.House.{House, LargestSet, Same, booked, money}
use Rattle.rule.specs.Day.{settle, deposits, payments, at_once}
use Rattle.rule.proofs.Same.{same-trans, position-same, largest-same}
use Rattle.tables.specs.Layout.{Tables, members_in, house_in}
use Rattle.tables.proofs.States.{holds-state}
use Rattle.booking.specs.Booking.{listed, booked_in}
use Rattle.answers.specs.Outcome.{Outcome, outcome, judgement, called}
use Rattle.std.specs.Prelude.{Ok, Err, Result}
use Rattle.answers.specs.declared.Refusal.{Refusal}
use Rattle.answers.specs.declared.Resolution.{Resolution}
use Rattle.answers.specs.Codes.{Judged}
use Rattle.answers.proofs.Outcomes.{held-fine, called-held}
use Rattle.opening.specs.Open.{entry}
use Rattle.resolving.specs.Resolve.{told, largest_in, resolve_act}
use Rattle.sheet.specs.declared.Says.TheVariants as S
use Rattle.sheet.specs.Lines.{text_of}
use Rattle.night.specs.Lines.{balance_says}
use Rattle.dayfile.specs.Lines.{Line, lines_of}
use Rattle.dayfile.specs.Chunks.{run_of}
use Rattle.dayfile.specs.Entries.{most_lines}
use Rattle.desk.specs.Sheet.{Night, texts_of, entry_in, step_of, morning, closed, sheet_of}
use Rattle.days.specs.Days.{Request, accepted, after_all, made, Inside, Ended, opening_of, Begun, Equal}
use Rattle.days.proofs.Joins.{deposits-join, payments-join}
use Rattle.days.proofs.Chains.{chain-carries, after-join, made-join, inside-first}
use Rattle.days.proofs.Demand3.{ended-stands}
use Rattle.days.proofs.Openings.{begun-stands, begun-members, day-ends-as-largest, days-end-equal}
use Rattle.days.proofs.Sums.{day-money}
use Rattle.nights.specs.Files.{resolve_request, is_end, night_after, Opens, balances_in, credits_in, members_of, OpenAlike, opened_by, Whole, requests_after, tables_after, made_after, LastResolves, closing_of, closing_in, EndsIn}
use Rattle.nights.proofs.Calls.{resolves-fine}
use Rattle.nights.proofs.Requests.{lines-inside}
use Rattle.nights.proofs.Runs.{Gone, run_join, run-few, lines-gone, end-tables, end-closes}
use Rattle.nights.proofs.Openings.{opens-begun}
use Rattle.nights.proofs.Closing.{closing_same, closing-money, closing-house, closing-alike}

-- ---- one file

-- lines of the day behind an opening are their requests, one after the other, on the tables that were opened
pub day-gone : {opening : List Line} (day : List Line) → Opens opening → Each (λ l. is_end (entry_in l) ≡ false) day → length opening + length day ≤ most_lines
    → Gone (night_after opening) (requests_after opening day) (length day) (run_of step_of (night_after opening) day)
day-gone {opening} day o on few =
    let b = opens-begun o in
    let f : (night_after opening).lines + length day ≤ most_lines = omega (arith, run-few morning opening) in
    lines-gone (night_after opening) day o.opens (begun-stands b) (begun-members b) on f

module _ {opening day : List Line} {file : List ℕ} (w : Whole opening day file) where
  begun : Begun (members_of opening) (balances_in opening) (credits_in opening) (opened_by opening)
  begun = opens-begun w.opens

  abbrev eve : Night
  eve = run_of step_of (night_after opening) day

  gone : Gone (night_after opening) (requests_after opening day) (length day) eve
  gone = day-gone day w.opens w.goes_on (omega (arith, w.few))

  file-run : night_after (lines_of file) ≡ run_of step_of eve (w.last ∷ w.rest)
  file-run = ap night_after w.parts ∙ run_join morning opening (day ++ (w.last ∷ w.rest)) ∙ run_join (night_after opening) day (w.last ∷ w.rest)

  in-time : eve.lines < most_lines
  in-time = omega (arith, gone.lines, run-few morning opening, w.few)

  -- the tables at its end are those after its requests, one after the other, from the tables that were opened
  pub file-tables : (night_after (lines_of file)).tables ≡ tables_after opening day
  file-tables = ap (λ (d : Night). d.tables) file-run ∙ end-tables eve w.last gone.stage in-time w.rest w.ends ∙ gone.after

  -- and the sheet ends in what these say
  pub file-closes : EndsIn (sheet_of file) (closing_of (tables_after opening day))
  file-closes = record {
    earlier = eve.sheet ++ [];
    parts = ap closed file-run ∙ end-closes eve w.last gone.stage in-time w.rest w.ends ∙ ap (λ t. (eve.sheet ++ []) ++ closing_of t) gone.after;
  }

  -- demand 2: the last line of the sheet is the money: the sum of the balances in the member lines, plus accepted deposits
  pub file-money : EndsIn (sheet_of file) (text_of (S.Money (money (members_of opening) (entry (balances_in opening)) +ℤ pos (sum (members_of opening) (deposits (made_after opening day))))))
  file-money =
      let t = tables_after opening day in
      let b = texts_of (listing (members_in t) (balance_says t)) in
      let a = file-closes.earlier in
      let n = members_of opening in
      let z : ℤ = money n (entry (balances_in opening)) +ℤ pos (sum n (deposits (made_after opening day))) in
      let m = day-money begun (requests_after opening day) (lines-inside n day (opened_by opening)) in
      record {
        earlier = a ++ b;
        parts =
            file-closes.parts
            ∙ ap (λ (l : List ℕ). a ++ l) (closing-money t ∙ ap (λ x. b ++ text_of (S.Money x)) m)
            ∙ sym (append_assoc a b (text_of (S.Money z)));
      }

-- ---- the last request is a resolution

-- a resolution brings no deposit and no payment
settle-deposits : (j : Judged) (z : Counts) (i : ℕ) → deposits (accepted j (settle z ∷ []) ++ []) i ≡ 0
settle-deposits (Ok u) z i = refl
settle-deposits (Err r) z i = refl

settle-payments : (j : Judged) (z : Counts) (i : ℕ) → payments (accepted j (settle z ∷ []) ++ []) i ≡ []
settle-payments (Ok u) z i = refl
settle-payments (Err r) z i = refl

module _ {opening day : List Line} (o : Opens opening) (r : LastResolves opening day) where
  abbrev T : Tables
  T = opened_by opening

  abbrev eve_tables : Tables
  eve_tables = after_all r.eve T

  abbrev last : Request
  last = resolve_request (members_of opening)

  eve-made : made_after opening day ≡ made r.eve T ++ made (last ∷ []) eve_tables
  eve-made = ap (λ qs. made qs T) r.parts ∙ made-join r.eve (last ∷ []) T

  pub eve-deposits : (i : ℕ) → deposits (made_after opening day) i ≡ deposits (made r.eve T) i
  eve-deposits i = ap (λ cs. deposits cs i) eve-made ∙ deposits-join (made r.eve T) (made (last ∷ []) eve_tables) i
      ∙ omega (arith, settle-deposits (judgement (resolve_act (replicate (members_of opening) 0)) eve_tables) (listed (largest_in eve_tables)) i)

  pub eve-payments : (i : ℕ) → payments (made_after opening day) i ≡ payments (made r.eve T) i
  eve-payments i = ap (λ cs. payments cs i) eve-made ∙ payments-join (made r.eve T) (made (last ∷ []) eve_tables) i
      ∙ ap (λ (l : List ℕ). payments (made r.eve T) i ++ l) (settle-payments (judgement (resolve_act (replicate (members_of opening) 0)) eve_tables) (listed (largest_in eve_tables)) i)
      ∙ append-nil (payments (made r.eve T) i)

  eve-inside : Inside r.eve T
  eve-inside = inside-first r.eve (last ∷ []) T (subst (λ qs. Inside qs T) r.parts (lines-inside (members_of opening) day T))

  -- it was accepted
  pub last-ended : Ended T r.eve (tables_after opening day)
  unfolding resolve_act
  last-ended =
      let c = chain-carries (begun-stands (opens-begun o)) r.eve eve-inside in
      let k = resolve_act (replicate (members_of opening) 0) in
      let f = resolves-fine c.stands (c.members ∙ begun-members (opens-begun o)) in
      let u : called k eve_tables ≡ k.does eve_tables = called-held k eve_tables (holds-state c.stands) ∙ held-fine k eve_tables f in
      let e : tables_after opening day ≡ (called k eve_tables).after = ap (λ qs. after_all qs T) r.parts ∙ after-join r.eve (last ∷ []) T in
      let a : booked_in eve_tables (listed (largest_in eve_tables)) ≡ tables_after opening day = sym (e ∙ ap (λ (v : Outcome (Result Resolution Refusal × List ℕ)). v.after) u) in
      record {
        inside = eve-inside;
        given = replicate (members_of opening) 0;
        told = largest_in eve_tables;
        resolution = told (members_in eve_tables) (house_in eve_tables) (listed (largest_in eve_tables));
        last = u ∙ ap (λ t. outcome (Ok (told (members_in eve_tables) (house_in eve_tables) (listed (largest_in eve_tables))), largest_in eve_tables) t) a;
      }

  -- so it ends as rule 2 says for the opening balances, all deposits and all payments taken at once
  pub file-as-at-once : {z : Counts} → LargestSet (members_of opening) (at_once (opening_of (balances_in opening) (credits_in opening)) (made r.eve T)) z
      → Same (members_of opening) (booked (members_of opening) (at_once (opening_of (balances_in opening) (credits_in opening)) (made r.eve T)) z) (house_in (tables_after opening day))
  file-as-at-once = day-ends-as-largest (opens-begun o) last-ended

-- ---- demand 3: two files

module _ {opening opening₁ day day₁ : List Line} {file file₁ : List ℕ} (w : Whole opening day file) (v : Whole opening₁ day₁ file₁) (alike : OpenAlike opening opening₁)
    (r : LastResolves opening day) (s : LastResolves opening₁ day₁)
    (paid-in : (i : ℕ) → i < members_of opening → deposits (made_after opening₁ day₁) i ≡ deposits (made_after opening day) i)
    (paid : (i : ℕ) → i < members_of opening → payments (made_after opening₁ day₁) i ≡ payments (made_after opening day) i) where
  begun₁ : Begun (members_of opening) (balances_in opening) (credits_in opening) (opened_by opening₁)
  begun₁ = subst (λ b. Begun (length b) b (credits_in opening) (opened_by opening₁)) alike.balances
      (subst (λ l. Begun (members_of opening₁) (balances_in opening₁) l (opened_by opening₁)) alike.lines (opens-begun v.opens))

  ends-equal : Equal (tables_after opening day) (tables_after opening₁ day₁)
  ends-equal = days-end-equal (opens-begun w.opens) begun₁ (last-ended w.opens r) (last-ended v.opens s)
      (λ i l. sym (eve-deposits v.opens s i) ∙ paid-in i l ∙ eve-deposits w.opens r i)
      (λ i l. sym (eve-payments v.opens s i) ∙ paid i l ∙ eve-payments w.opens r i)

  -- the closing lines are the same bytes,
  pub closings-equal : closing_of (tables_after opening₁ day₁) ≡ closing_of (tables_after opening day)
  closings-equal =
      let a = ended-stands (begun-stands (opens-begun w.opens)) (last-ended w.opens r) in
      closing_same a (ended-stands (begun-stands begun₁) (last-ended v.opens s)) ends-equal

  -- and both sheets end in them
  pub sheets-end-alike : EndsIn (sheet_of file) (closing_of (tables_after opening day)) × EndsIn (sheet_of file₁) (closing_of (tables_after opening day))
  sheets-end-alike = (file-closes w, subst (EndsIn (sheet_of file₁)) closings-equal (file-closes v))

-- the same house and member lines open alike
pub same_alike : (ls : List Line) → OpenAlike ls ls
same_alike ls = record { balances = refl; lines = refl }

-- ---- the closing lines by rule 2 alone

module _ {opening day : List Line} {file : List ℕ} (w : Whole opening day file) (r : LastResolves opening day) where
  abbrev at_once_house : House
  at_once_house = at_once (opening_of (balances_in opening) (credits_in opening)) (made_after opening day)

  abbrev eve_house : House
  eve_house = at_once (opening_of (balances_in opening) (credits_in opening)) (made r.eve (opened_by opening))

  once-same : Same (members_of opening) at_once_house eve_house
  once-same = record {
    lines = λ i l. refl;
    balances = λ i l. ap (λ k. entry (balances_in opening) i +ℤ pos k) (sym (eve-deposits w.opens r i));
    queues = λ i l. sym (eve-payments w.opens r i);
  }

  -- both demands at once: the closing lines are those of the house that rule 2 gives for the opening balances, all accepted deposits and
  -- all accepted payments taken at once
  pub sheet-as-at-once : {z : Counts} → LargestSet (members_of opening) at_once_house z → EndsIn (sheet_of file) (closing_in (members_of opening) (booked (members_of opening) at_once_house z))
  sheet-as-at-once {z} l =
      let b = opens-begun w.opens in
      let W = tables_after opening day in
      let n = members_of opening in
      let m : LargestSet n eve_house z = largest-same once-same l in
      let s : Same n (booked n eve_house z) (house_in W) = file-as-at-once w.opens r m in
      let t : Same n (booked n at_once_house z) (booked n eve_house z) = record { lines = λ i q. refl; balances = position-same once-same z; queues = λ i q. rw (once-same.queues i q) } in
      let h = chain-carries (begun-stands b) (requests_after opening day) (lines-inside n day (opened_by opening)) in
      let e : closing_of W ≡ closing_in n (house_in W) = closing-house h.stands ∙ ap (λ k. closing_in k (house_in W)) (h.members ∙ begun-members b) in
      subst (EndsIn (sheet_of file)) (e ∙ closing-alike n (booked n at_once_house z) (house_in W) (same-trans t s)) (file-closes w)
