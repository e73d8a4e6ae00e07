-- Day files as days: the requests that their lines make, and the files that open a house and come to `end`.
use Rattle.std.specs.Prelude.{◌≡◌, Bool, true, false, List, [], ◌∷◌, ◌++◌, ℕ, ◌+◌, ◌<◌, ℤ, pos, length, replicate}
use Rattle.rule.specs.Lists.{listing, Each}
use Rattle.rule.specs.House.{House, waits, money}
use Rattle.sheet.specs.declared.Says.TheVariants as S
use Rattle.rule.specs.Day.{Call}
use Rattle.tables.specs.Layout.{Tables}
use Rattle.dayfile.specs.Entries as E
use Rattle.answers.specs.declared.Refusal.{Refusal}
use Rattle.sheet.specs.Lines.{text_of}
use Rattle.dayfile.specs.Lines.{Line, lines_of}
use Rattle.dayfile.specs.Chunks.{run_of}
use Rattle.night.specs.declared.Stage.TheVariants as G
use Rattle.daylines.specs.Calls.{refusal}
use Rattle.night.specs.Lines.{end_says}
use Rattle.dayfile.specs.Entries.{most_lines, DayLine, Entry}
use Rattle.desk.specs.Sheet.{Night, texts_of, entry_in, step_of, morning, sheet_of}
use Rattle.days.specs.Days.{Request, deposits, submits, releases, groups, resolves, after_all, made}

-- ---- the requests of a day

-- a resolution of a house of n members: the lent list is as long
abbrev pub resolve_request : ℕ → Request
resolve_request n = resolves (replicate n 0)

-- what a line of the day requests in a house of n members
abbrev pub request_of : ℕ → DayLine → Request
request_of n (E.pay kind m k q x) = submits m k q x
request_of n (E.deposit m x) = deposits m x
request_of n (E.release m) = releases m
request_of n (E.group k) = groups k
request_of n E.resolve = resolve_request n

-- what any line requests there
abbrev pub requests_of : ℕ → Entry → List Request
requests_of n (E.opening o) = []
requests_of n (E.day d) = request_of n d ∷ []
requests_of n E.end = []
requests_of n E.bad = []

-- the requests of some lines, one after the other
abbrev pub requests_in : ℕ → List Line → List Request
requests_in n [] = []
requests_in n (l ∷ ls) = requests_of n (entry_in l) ++ requests_in n ls

-- ---- files

abbrev pub is_end : Entry → Bool
is_end (E.opening o) = false
is_end (E.day d) = false
is_end E.end = true
is_end E.bad = false

-- the night after these lines of a file
abbrev pub night_after : List Line → Night
night_after ls = run_of step_of morning ls

-- a house line and its member lines, of which the last opens the house: before it a member line is awaited, and after it it is day
pub record Opens (ls : List Line) : Type 0 where
  pub earlier : List Line
  pub last : Line
  pub parts : ls ≡ earlier ++ (last ∷ [])
  pub count : ℕ
  pub given : ℕ
  pub awaits : (night_after earlier).stage ≡ G.Members count given
  pub opens : (night_after ls).stage ≡ G.Day

-- the balance and the line that a member line gives
abbrev pub balance_given : Entry → List ℤ
balance_given (E.opening (E.house m)) = []
balance_given (E.opening (E.member m b l)) = b ∷ []
balance_given (E.day d) = []
balance_given E.end = []
balance_given E.bad = []

abbrev pub credit_of : Entry → List ℤ
credit_of (E.opening (E.house m)) = []
credit_of (E.opening (E.member m b l)) = pos l ∷ []
credit_of (E.day d) = []
credit_of E.end = []
credit_of E.bad = []

-- the balances and the lines that some lines give, in order
abbrev pub balances_in : List Line → List ℤ
balances_in [] = []
balances_in (l ∷ ls) = balance_given (entry_in l) ++ balances_in ls

abbrev pub credits_in : List Line → List ℤ
credits_in [] = []
credits_in (l ∷ ls) = credit_of (entry_in l) ++ credits_in ls

-- how many members they give
abbrev pub members_of : List Line → ℕ
members_of ls = length (balances_in ls)

-- two openings with the same balances and the same lines
pub record OpenAlike (ls ms : List Line) : Type 0 where
  pub balances : balances_in ms ≡ balances_in ls
  pub lines : credits_in ms ≡ credits_in ls

-- the tables that were opened
abbrev pub opened_by : List Line → Tables
opened_by ls = (night_after ls).tables

-- a file that opens with the lines `opening`, goes on with the lines `day`, and then comes to its `end` line, at most the 1,000,000th
pub record Whole (opening day : List Line) (file : List ℕ) : Type 0 where
  pub opens : Opens opening
  pub last : Line
  pub rest : List Line
  pub parts : lines_of file ≡ opening ++ (day ++ (last ∷ rest))
  pub goes_on : Each (λ l. is_end (entry_in l) ≡ false) day
  pub ends : is_end (entry_in last) ≡ true
  pub few : length opening + length day < most_lines

-- its requests, and the tables after them
abbrev pub requests_after : List Line → List Line → List Request
requests_after opening day = requests_in (members_of opening) day

abbrev pub tables_after : List Line → List Line → Tables
tables_after opening day = after_all (requests_after opening day) (opened_by opening)

-- what they did, in the rule's words
abbrev pub made_after : List Line → List Line → List Call
made_after opening day = made (requests_after opening day) (opened_by opening)

-- the last of them is a resolution
pub record LastResolves (opening day : List Line) : Type 0 where
  pub eve : List Request
  pub parts : requests_after opening day ≡ eve ++ (resolve_request (members_of opening) ∷ [])

-- ---- the closing lines

-- a `balance` line for each member and the `money` line, as bytes
abbrev pub closing_of : Tables → List ℕ
closing_of t = texts_of (end_says t)

-- the same for a house of n members
abbrev pub closing_in : ℕ → House → List ℕ
closing_in n H = texts_of (listing n (λ i. S.Balance (i + 1) (H.balance i) (waits H i)) ++ (S.Money (money n H.balance) ∷ []))

-- the sheet ends in these bytes
pub record EndsIn (sheet closing : List ℕ) : Type 0 where
  pub earlier : List ℕ
  pub parts : sheet ≡ earlier ++ closing

-- how a file comes out: it opens a house and comes to its `end` line, or the last line of its sheet is a refusal
pub data Comes (file : List ℕ) : Type 0 where
  whole : (opening day : List Line) → Whole opening day file → Comes file
  refused : (n : ℕ) (r : Refusal) → EndsIn (sheet_of file) (text_of (refusal n r)) → Comes file
