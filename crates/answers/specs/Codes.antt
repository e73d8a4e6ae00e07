-- The codes of document 01, and the order in which they are judged: the first whose condition holds.
use Rattle.std.specs.Prelude.{Bool, cond, ◌&&◌, List, [], ◌∷◌, ℕ, leb, Result, Ok, Err, ⊤}
use Rattle.tables.specs.Sizes.{most_amount}
use Rattle.tables.specs.Layout.{count_of}
use Rattle.answers.specs.declared.Refusal.{Refusal}
use Rattle.answers.specs.declared.Refusal.TheVariants.{State, Member, Same, Amount, Number, Full, Money, Nothing, Cover, Counts, Opening, Line, Room}

-- the paper's number of each refusal
abbrev pub code_of : Refusal → ℕ
code_of State = 1
code_of Member = 2
code_of Same = 3
code_of Amount = 4
code_of Number = 5
code_of Full = 6
code_of Money = 7
code_of Nothing = 8
code_of Cover = 9
code_of Counts = 10
code_of Opening = 11
code_of Line = 12
code_of Room = 13

-- a code, and whether its condition holds
pub record Test : Type 0 where
  pub when : Bool
  pub code : Refusal

abbrev pub test : Bool → Refusal → Test
test b r = record { when = b; code = r }

-- what a request is judged to be: fine, or refused by a code
abbrev pub Judged : Type 0
Judged = Result ⊤ Refusal

-- the first code whose condition holds
abbrev pub first : List Test → Judged
first [] = Ok tt
first (t ∷ ts) = cond t.when (Err t.code) (first ts)

-- ---- conditions that several calls judge

-- m is a member's number: 1 to the count
abbrev pub is_member : List ℕ → ℕ → Bool
is_member c m = leb 1 m && leb m (count_of c)

-- x is an amount: 1 to 10^12
abbrev pub is_amount : ℕ → Bool
is_amount x = leb 1 x && leb x most_amount
