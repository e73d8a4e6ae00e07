-- The lines of the sheet, byte for byte (document 01, "The day file and the sheet"): fields parted by one tab (byte 9), each line ended by
-- byte 10.
use Rattle.std.specs.Prelude.{ℕ, List, [], ◌∷◌, ◌++◌, ℤ, pos, Option, Some, None}
use Rattle.numbers.specs.Numbers.{digits_of, signed_text}
use Rattle.sheet.specs.declared.Says.{Says}
use Rattle.sheet.specs.declared.Says.TheVariants as S

-- `open`
abbrev pub open_word : List ℕ
open_word = 111 ∷ 112 ∷ 101 ∷ 110 ∷ []

-- `queued`
abbrev pub queued_word : List ℕ
queued_word = 113 ∷ 117 ∷ 101 ∷ 117 ∷ 101 ∷ 100 ∷ []

-- `deposited`
abbrev pub deposited_word : List ℕ
deposited_word = 100 ∷ 101 ∷ 112 ∷ 111 ∷ 115 ∷ 105 ∷ 116 ∷ 101 ∷ 100 ∷ []

-- `released`
abbrev pub released_word : List ℕ
released_word = 114 ∷ 101 ∷ 108 ∷ 101 ∷ 97 ∷ 115 ∷ 101 ∷ 100 ∷ []

-- `group`
abbrev pub group_word : List ℕ
group_word = 103 ∷ 114 ∷ 111 ∷ 117 ∷ 112 ∷ []

-- `resolve`
abbrev pub resolve_word : List ℕ
resolve_word = 114 ∷ 101 ∷ 115 ∷ 111 ∷ 108 ∷ 118 ∷ 101 ∷ []

-- `refused`
abbrev pub refused_word : List ℕ
refused_word = 114 ∷ 101 ∷ 102 ∷ 117 ∷ 115 ∷ 101 ∷ 100 ∷ []

-- `balance`
abbrev pub balance_word : List ℕ
balance_word = 98 ∷ 97 ∷ 108 ∷ 97 ∷ 110 ∷ 99 ∷ 101 ∷ []

-- `money`
abbrev pub money_word : List ℕ
money_word = 109 ∷ 111 ∷ 110 ∷ 101 ∷ 121 ∷ []

-- the parts of a line: the line number with its tab, or nothing; the word; the numbers behind it
pub record Parts : Type 0 where
  pub start : List ℕ
  pub word : List ℕ
  pub numbers : List ℤ

-- the line number with its tab
abbrev pub start_text : ℕ → List ℕ
start_text line = digits_of line ++ (9 ∷ [])

-- a line that begins with its number
abbrev pub with_number : ℕ → List ℕ → List ℤ → Parts
with_number line word zs = record { start = start_text line; word = word; numbers = zs }

-- a line that begins with its word
abbrev pub plain : List ℕ → List ℤ → Parts
plain word zs = record { start = []; word = word; numbers = zs }

-- the parts of each kind of line
abbrev pub parts_of : Says → Parts
parts_of (S.Open line count sum) = with_number line open_word (pos count ∷ sum ∷ [])
parts_of (S.Queued line payer number) = with_number line queued_word (pos payer ∷ pos number ∷ [])
parts_of (S.Deposited line member balance) = with_number line deposited_word (pos member ∷ balance ∷ [])
parts_of (S.Released line payer number amount) = with_number line released_word (pos payer ∷ pos number ∷ pos amount ∷ [])
parts_of (S.Group line payments sum) = with_number line group_word (pos payments ∷ pos sum ∷ [])
parts_of (S.Resolve line verdict payments sum waiting lowest) =
    with_number line resolve_word (pos verdict ∷ pos payments ∷ pos sum ∷ pos waiting ∷ pos lowest ∷ [])
parts_of (S.Refused line code) = with_number line refused_word (pos code ∷ [])
parts_of (S.Balance member balance waiting) = plain balance_word (pos member ∷ balance ∷ pos waiting ∷ [])
parts_of (S.Money sum) = plain money_word (sum ∷ [])

-- a tab and a number, for each of them
unfoldable pub tabbed : List ℤ → List ℕ
tabbed [] = []
tabbed (z ∷ zs) = (9 ∷ signed_text z) ++ tabbed zs

-- the text of a line with these parts
abbrev pub line_text : Parts → List ℕ
line_text p = p.start ++ p.word ++ tabbed p.numbers ++ (10 ∷ [])

-- the text of a line of the sheet
abbrev pub text_of : Says → List ℕ
text_of s = line_text (parts_of s)

-- the line number with its tab, if there is one
abbrev pub start_of : Option ℕ → List ℕ
start_of (Some line) = start_text line
start_of None = []

-- a line that begins with its number, if it has one
abbrev pub shown_if : Option ℕ → List ℕ → List ℤ → Parts
shown_if line word zs = record { start = start_of line; word = word; numbers = zs }
