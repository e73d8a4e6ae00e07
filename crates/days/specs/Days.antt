-- Days over the real tables: the requests that were made, one after the other, and what they did (demand 3).
use Rattle.std.specs.Prelude.{◌≡◌, ◌≢◌, List, [], ◌∷◌, ◌++◌, ℕ, suc, ◌-◌, ◌<◌, ℤ, Ok, Err}
use Rattle.rule.specs.Ints.{up}
use Rattle.rule.specs.Payment.{word, payer_of, payee_of, amount_of}
use Rattle.rule.specs.House.{House, Same}
use Rattle.rule.specs.Day.{Call, deposit, submit, settle}
use Rattle.rule.specs.Table.{queue_of}
use Rattle.tables.specs.Layout.{Tables, members_in, words_in, house_in, last_of, settled_of}
use Rattle.booking.specs.Booking.{listed}
use Rattle.opening.specs.Open.{open_act, entry}
use Rattle.entry.specs.Deposit.{deposit_act}
use Rattle.entry.specs.Submit.{submit_act}
use Rattle.settling.specs.Release.{release_act, only_head}
use Rattle.settling.specs.Group.{group_act}
use Rattle.resolving.specs.Resolve.{resolve_act, largest_in}
use Rattle.answers.specs.Codes.{first, Judged}
use Rattle.answers.specs.Outcome.{outcome, held, judgement, called}
use Rattle.answers.specs.declared.Resolution.{Resolution}

-- ---- a day

-- a request, in the words of the calls
pub data Request : Type 0 where
  opens : (n : ℕ) (b l : List ℤ) → Request
  deposits : (m x : ℕ) → Request
  submits : (m n q x : ℕ) → Request
  releases : (m : ℕ) → Request
  groups : (k : List ℕ) → Request
  resolves : (k : List ℕ) → Request

-- the tables after it, accepted or refused
abbrev pub after : Request → Tables → Tables
after (opens n b l) T = (held (open_act n b l) T).after
after (deposits m x) T = (called (deposit_act m x) T).after
after (submits m n q x) T = (called (submit_act m n q x) T).after
after (releases m) T = (called (release_act m) T).after
after (groups k) T = (called (group_act k) T).after
after (resolves k) T = (called (resolve_act k) T).after

-- nothing where it was refused
abbrev pub accepted : Judged → List Call → List Call
accepted (Ok u) cs = cs
accepted (Err r) cs = []

-- what it did inside a day, in the rule's words
abbrev pub did : Request → Tables → List Call
did (opens n b l) T = []
did (deposits m x) T = accepted (judgement (deposit_act m x) T) (deposit (m - 1) x ∷ [])
did (submits m n q x) T = accepted (judgement (submit_act m n q x) T) (submit (word (m - 1) (q - 1) x) ∷ [])
did (releases m) T = accepted (judgement (release_act m) T) (settle (only_head m) ∷ [])
did (groups k) T = accepted (judgement (group_act k) T) (settle (listed k) ∷ [])
did (resolves k) T = accepted (judgement (resolve_act k) T) (settle (listed (largest_in T)) ∷ [])

-- it does not open again: an open is refused
abbrev pub GoesOn : Request → Tables → Type 0
GoesOn (opens n b l) T = first ((open_act n b l).tests T) ≢ Ok tt
GoesOn (deposits m x) T = Unit {0}
GoesOn (submits m n q x) T = Unit {0}
GoesOn (releases m) T = Unit {0}
GoesOn (groups k) T = Unit {0}
GoesOn (resolves k) T = Unit {0}

-- requests one after the other, each on the tables as the one before left them
abbrev pub after_all : List Request → Tables → Tables
after_all [] T = T
after_all (q ∷ qs) T = after_all qs (after q T)

abbrev pub made : List Request → Tables → List Call
made [] T = []
made (q ∷ qs) T = did q T ++ made qs (after q T)

-- inside a day none of them opens again
abbrev pub Inside : List Request → Tables → Type 0
Inside [] T = Unit {0}
Inside (q ∷ qs) T = GoesOn q T × Inside qs (after q T)

-- the requests, inside a day, and then a resolution with the lent list `given`, which was accepted: it told `told`, and left the tables W
pub record Ended (T : Tables) (qs : List Request) (W : Tables) : Type 0 where
  pub inside : Inside qs T
  pub given : List ℕ
  pub told : List ℕ
  pub resolution : Resolution
  pub last : called (resolve_act given) (after_all qs T) ≡ outcome (Ok resolution, told) W

-- ---- the opening of a day

-- the house that opens with the balances b and the lines l: no payment waits
abbrev pub opening_of : List ℤ → List ℤ → House
opening_of b l = record { line = λ i. up (entry l i); balance = entry b; queue = λ i. [] }

-- an accepted open of n members with the balances b and the lines l, on any tables, left the tables T
pub record Begun (n : ℕ) (b l : List ℤ) (T : Tables) : Type 0 where
  pub before : Tables
  pub sum : ℤ
  pub promise : held (open_act n b l) before ≡ outcome (Ok sum) T

-- ---- what is compared

-- a waiting payment: payer, number, payee and amount
pub record Waiting : Type 0 where
  pub payer : ℕ
  pub number : ℕ
  pub payee : ℕ
  pub amount : ℕ

-- the payments of a queue whose head has the number n
abbrev pub numbered : ℕ → List ℕ → List Waiting
numbered n [] = []
numbered n (w ∷ ws) = record { payer = payer_of w; number = n; payee = payee_of w; amount = amount_of w } ∷ numbered (suc n) ws

-- the queue of member i, with numbers
abbrev pub queue_in : Tables → ℕ → List Waiting
queue_in T i = numbered (suc (settled_of T.counters i)) (queue_of i (words_in T))

-- two tables hold houses with equal member counts, lines, balances, queues and last numbers; the places may differ
pub record Equal (T W : Tables) : Type 0 where
  pub members : members_in W ≡ members_in T
  pub same : Same (members_in T) (house_in T) (house_in W)
  pub lasts : (i : ℕ) → i < members_in T → last_of W.counters i ≡ last_of T.counters i
