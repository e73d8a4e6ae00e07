-- Lines of the sheet, written by the definition: each kind of document 01 (tabs shown as spaces).
use mathlib.Core.Path.{◌≡◌, refl}
use mathlib.Core.List.{[], ◌∷◌}
use lib.IntN.{pos, negsuc}
use Rattle.numbers.specs.Numbers.{last_digits, width_up_to}
use Rattle.sheet.specs.declared.Says.TheVariants as S
use Rattle.sheet.specs.Lines.{tabbed, text_of}

-- `3 open 2 10`
open-line : text_of (S.Open 3 2 (pos 10)) ≡ 51 ∷ 9 ∷ 111 ∷ 112 ∷ 101 ∷ 110 ∷ 9 ∷ 50 ∷ 9 ∷ 49 ∷ 48 ∷ 10 ∷ []
unfolding tabbed last_digits width_up_to
open-line = refl

-- `4 queued 1 1`
queued-line : text_of (S.Queued 4 1 1) ≡ 52 ∷ 9 ∷ 113 ∷ 117 ∷ 101 ∷ 117 ∷ 101 ∷ 100 ∷ 9 ∷ 49 ∷ 9 ∷ 49 ∷ 10 ∷ []
unfolding tabbed last_digits width_up_to
queued-line = refl

-- `5 deposited 1 -20`
deposited-line : text_of (S.Deposited 5 1 (negsuc 19)) ≡ 53 ∷ 9 ∷ 100 ∷ 101 ∷ 112 ∷ 111 ∷ 115 ∷ 105 ∷ 116 ∷ 101 ∷ 100 ∷ 9 ∷ 49 ∷ 9 ∷ 45 ∷ 50 ∷ 48 ∷ 10 ∷ []
unfolding tabbed last_digits width_up_to
deposited-line = refl

-- `6 released 1 2 5`
released-line : text_of (S.Released 6 1 2 5) ≡ 54 ∷ 9 ∷ 114 ∷ 101 ∷ 108 ∷ 101 ∷ 97 ∷ 115 ∷ 101 ∷ 100 ∷ 9 ∷ 49 ∷ 9 ∷ 50 ∷ 9 ∷ 53 ∷ 10 ∷ []
unfolding tabbed last_digits width_up_to
released-line = refl

-- `7 group 2 50`
group-line : text_of (S.Group 7 2 50) ≡ 55 ∷ 9 ∷ 103 ∷ 114 ∷ 111 ∷ 117 ∷ 112 ∷ 9 ∷ 50 ∷ 9 ∷ 53 ∷ 48 ∷ 10 ∷ []
unfolding tabbed last_digits width_up_to
group-line = refl

-- `8 resolve 2 2 50 1 1`
resolve-line : text_of (S.Resolve 8 2 2 50 1 1) ≡ 56 ∷ 9 ∷ 114 ∷ 101 ∷ 115 ∷ 111 ∷ 108 ∷ 118 ∷ 101 ∷ 9 ∷ 50 ∷ 9 ∷ 50 ∷ 9 ∷ 53 ∷ 48 ∷ 9 ∷ 49 ∷ 9 ∷ 49 ∷ 10 ∷ []
unfolding tabbed last_digits width_up_to
resolve-line = refl

-- `0 refused 12`
refused-line : text_of (S.Refused 0 12) ≡ 48 ∷ 9 ∷ 114 ∷ 101 ∷ 102 ∷ 117 ∷ 115 ∷ 101 ∷ 100 ∷ 9 ∷ 49 ∷ 50 ∷ 10 ∷ []
unfolding tabbed last_digits width_up_to
refused-line = refl

-- `balance 2 10 0`
balance-line : text_of (S.Balance 2 (pos 10) 0) ≡ 98 ∷ 97 ∷ 108 ∷ 97 ∷ 110 ∷ 99 ∷ 101 ∷ 9 ∷ 50 ∷ 9 ∷ 49 ∷ 48 ∷ 9 ∷ 48 ∷ 10 ∷ []
unfolding tabbed last_digits width_up_to
balance-line = refl

-- `money 10`
money-line : text_of (S.Money (pos 10)) ≡ 109 ∷ 111 ∷ 110 ∷ 101 ∷ 121 ∷ 9 ∷ 49 ∷ 48 ∷ 10 ∷ []
unfolding tabbed last_digits width_up_to
money-line = refl
