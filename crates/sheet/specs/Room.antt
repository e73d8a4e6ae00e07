-- Writing a line of the sheet into the unused rest of the lent output (document 01, code 13), and the ranges that keep a line short.
use Rattle.std.specs.Prelude.{ℕ, ◌+◌, ◌^◌, ◌<◌, Bool, cond, List, [], ◌∷◌, leb, ltb, length, ℤ, nat_abs, Result, Ok, Err}
use Rattle.std.proofs.lemmas.List.Edits.{sets}
use Rattle.answers.specs.Codes.{code_of}
use Rattle.answers.specs.declared.Refusal.{Refusal}
use Rattle.answers.specs.declared.Refusal.TheVariants as R
use Rattle.numbers.specs.Numbers.{most_digits}
use Rattle.sheet.specs.declared.Says.{Says}
use Rattle.sheet.specs.declared.Says.TheVariants as S

-- the bytes that must be left for a line, which has no more
abbrev pub least_room : ℕ
least_room = 80

-- n bytes have room for a line behind what is used
abbrev pub has_room : ℕ → ℕ → Bool
has_room n used = leb (used + least_room) n

-- less than 80 bytes are left: code 13
abbrev pub no_room : Result ℕ Refusal
no_room = Err R.Room

-- the answer, where so many bytes are left: how many were written
abbrev pub put_of : ℕ → List ℕ → Result ℕ Refusal
put_of room text = cond (ltb room least_room) no_room (Ok (length text))

-- the paper's number of an answer
abbrev pub put_code : Result ℕ Refusal → ℕ
put_code (Ok n) = 0
put_code (Err r) = code_of r

-- the output after it, where the text goes to place at
abbrev pub after_put : ℕ → List ℕ → ℕ → List ℕ → List ℕ
after_put room out at text = cond (ltb room least_room) out (sets out at text)

-- line numbers have at most 7 digits, members 2, payment numbers 10, amounts 13, balances and their sum 16, sums of amounts 17, counts of
-- payments 4, and verdicts, counts of members and codes 2
abbrev pub Ranges : Says → Type 0
Ranges (S.Open line count sum) = (line < 10 ^ 7) × (count < 10 ^ 2) × (nat_abs sum < 10 ^ 16)
Ranges (S.Queued line payer number) = (line < 10 ^ 7) × (payer < 10 ^ 2) × (number < 10 ^ 10)
Ranges (S.Deposited line member balance) = (line < 10 ^ 7) × (member < 10 ^ 2) × (nat_abs balance < 10 ^ 16)
Ranges (S.Released line payer number amount) = (line < 10 ^ 7) × (payer < 10 ^ 2) × (number < 10 ^ 10) × (amount < 10 ^ 13)
Ranges (S.Group line payments sum) = (line < 10 ^ 7) × (payments < 10 ^ 4) × (sum < 10 ^ 17)
Ranges (S.Resolve line verdict payments sum waiting lowest) =
    (line < 10 ^ 7) × (verdict < 10 ^ 2) × (payments < 10 ^ 4) × (sum < 10 ^ 17) × (waiting < 10 ^ 2) × (lowest < 10 ^ 2)
Ranges (S.Refused line code) = (line < 10 ^ 7) × (code < 10 ^ 2)
Ranges (S.Balance member balance waiting) = (member < 10 ^ 2) × (nat_abs balance < 10 ^ 16) × (waiting < 10 ^ 4)
Ranges (S.Money sum) = nat_abs sum < 10 ^ 16

-- each of them has at most 18 digits
abbrev pub AllShort : List ℤ → Type 0
AllShort [] = Unit
AllShort (z ∷ zs) = (nat_abs z < 10 ^ most_digits) × AllShort zs
