-- A host in C: its calls one after the other, each on the tables' bytes as the one before left them (demands 1, 2 and 3).
use Rattle.std.specs.Prelude.{◌≡◌, ◌≢◌, List, [], ◌∷◌, ◌++◌, ℕ, zero, suc, ◌-◌}
use Rattle.rule.specs.Payment.{word}
use Rattle.rule.specs.House.{House}
use Rattle.rule.specs.Day.{deposit, submit, Call as Noted}
use Rattle.lent.specs.Bytes.{signed_in}
use Rattle.lent.specs.Reply.{lends}
use Rattle.lent.specs.Asks.{Ask, opens, deposits, submits, releases, groups, resolves, replied}
use Rattle.days.specs.Days.{opening_of}

-- q was asked on the tables s, with some counts and some answer lent: the code was k, and the tables became t
pub record HostCall (q : Ask) (k : ℕ) (s t : List ℕ) : Type 0 where
  pub counts : List ℕ
  pub answer : List ℕ
  pub counts' : List ℕ
  pub answer' : List ℕ
  pub promise : (k, lends t counts' answer') ≡ replied q (lends s counts answer)

-- inside a day no open is accepted
abbrev pub Continues : Ask → ℕ → Type 0
Continues (opens n u v) k = k ≢ 0
Continues (deposits m x) k = Unit {0}
Continues (submits m n q x) k = Unit {0}
Continues (releases m) k = Unit {0}
Continues (groups u) k = Unit {0}
Continues resolves k = Unit {0}

-- calls one after the other, accepted or refused, from the tables s to the tables t
pub data Chain : List ℕ → List ℕ → Type 0 where
  end : {s : List ℕ} → Chain s s
  next : {s t u : List ℕ} {q : Ask} {k : ℕ} → HostCall q k s t → Continues q k → Chain t u → Chain s u

-- ---- what is noted of them

-- nothing where the code is not 0
abbrev pub by_code : {A : Type 0} → ℕ → List A → List A
by_code zero l = l
by_code (suc k) l = []

-- a deposit, or a payment
abbrev pub noted : Ask → List Noted
noted (opens n u v) = []
noted (deposits m x) = deposit (m - 1) x ∷ []
noted (submits m n q x) = submit (word (m - 1) (q - 1) x) ∷ []
noted (releases m) = []
noted (groups u) = []
noted resolves = []

-- the accepted deposits and payments, in order
abbrev pub notes : {s t : List ℕ} → Chain s t → List Noted
notes end = []
notes (next {q = q} {k = k} c i d) = by_code k (noted q) ++ notes d

-- ---- a day

-- an accepted open of n members with these balances and lines, calls, and an accepted resolution, which left the tables t
pub record HostDay (n : ℕ) (balances lines t : List ℕ) : Type 0 where
  pub before : List ℕ
  pub morning : List ℕ
  pub eve : List ℕ
  pub first : HostCall (opens n balances lines) 0 before morning
  pub calls : Chain morning eve
  pub last : HostCall resolves 0 eve t

-- the house as it opened
abbrev pub opening_in : List ℕ → List ℕ → House
opening_in u v = opening_of (signed_in u) (signed_in v)
