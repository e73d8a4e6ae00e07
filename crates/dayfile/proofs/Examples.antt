-- Lines of the day file, read by the definition: each kind of document 01, and lines that break its forms (tabs shown as spaces).
use mathlib.Core.Path.{◌≡◌, refl}
use mathlib.Core.List.{[], ◌∷◌}
use lib.IntN.{negsuc}
use Rattle.numbers.specs.Numbers.{digits_from}
use Rattle.dayfile.specs.Fields.{fields_of}
use Rattle.dayfile.specs.Entries.{plain_kind, house, member, pay, deposit, release, group, resolve, opening, day, end, bad, numbers_of, entry_of}

-- `house 1 2`
house-line : entry_of (104 ∷ 111 ∷ 117 ∷ 115 ∷ 101 ∷ 9 ∷ 49 ∷ 9 ∷ 50 ∷ []) ≡ opening (house 2)
unfolding fields_of numbers_of digits_from
house-line = refl

-- `house 2 2`
house-edition : entry_of (104 ∷ 111 ∷ 117 ∷ 115 ∷ 101 ∷ 9 ∷ 50 ∷ 9 ∷ 50 ∷ []) ≡ bad
unfolding fields_of numbers_of digits_from
house-edition = refl

-- `house 1 65`
house-count-passed : entry_of (104 ∷ 111 ∷ 117 ∷ 115 ∷ 101 ∷ 9 ∷ 49 ∷ 9 ∷ 54 ∷ 53 ∷ []) ≡ opening (house 65)
unfolding fields_of numbers_of digits_from
house-count-passed = refl

-- `member 1 -10 0`
member-line : entry_of (109 ∷ 101 ∷ 109 ∷ 98 ∷ 101 ∷ 114 ∷ 9 ∷ 49 ∷ 9 ∷ 45 ∷ 49 ∷ 48 ∷ 9 ∷ 48 ∷ []) ≡ opening (member 1 (negsuc 9) 0)
unfolding fields_of numbers_of digits_from
member-line = refl

-- `member 1 -0 0`
member-minus-zero : entry_of (109 ∷ 101 ∷ 109 ∷ 98 ∷ 101 ∷ 114 ∷ 9 ∷ 49 ∷ 9 ∷ 45 ∷ 48 ∷ 9 ∷ 48 ∷ []) ≡ bad
unfolding fields_of numbers_of digits_from
member-minus-zero = refl

-- `member 1 10`
member-field-missing : entry_of (109 ∷ 101 ∷ 109 ∷ 98 ∷ 101 ∷ 114 ∷ 9 ∷ 49 ∷ 9 ∷ 49 ∷ 48 ∷ []) ≡ bad
unfolding fields_of numbers_of digits_from
member-field-missing = refl

-- `pay 1 1 2 30`
pay-line : entry_of (112 ∷ 97 ∷ 121 ∷ 9 ∷ 49 ∷ 9 ∷ 49 ∷ 9 ∷ 50 ∷ 9 ∷ 51 ∷ 48 ∷ []) ≡ day (pay plain_kind 1 1 2 30)
unfolding fields_of numbers_of digits_from
pay-line = refl

-- `pay 1 1 2 030`
pay-leading-zero : entry_of (112 ∷ 97 ∷ 121 ∷ 9 ∷ 49 ∷ 9 ∷ 49 ∷ 9 ∷ 50 ∷ 9 ∷ 48 ∷ 51 ∷ 48 ∷ []) ≡ bad
unfolding fields_of numbers_of digits_from
pay-leading-zero = refl

-- `pay 1 0 2 -5`
pay-minus : entry_of (112 ∷ 97 ∷ 121 ∷ 9 ∷ 49 ∷ 9 ∷ 48 ∷ 9 ∷ 50 ∷ 9 ∷ 45 ∷ 53 ∷ []) ≡ bad
unfolding fields_of numbers_of digits_from
pay-minus = refl

-- `deposit 1 0`
deposit-amount-passed : entry_of (100 ∷ 101 ∷ 112 ∷ 111 ∷ 115 ∷ 105 ∷ 116 ∷ 9 ∷ 49 ∷ 9 ∷ 48 ∷ []) ≡ day (deposit 1 0)
unfolding fields_of numbers_of digits_from
deposit-amount-passed = refl

-- `release 2`
release-line : entry_of (114 ∷ 101 ∷ 108 ∷ 101 ∷ 97 ∷ 115 ∷ 101 ∷ 9 ∷ 50 ∷ []) ≡ day (release 2)
unfolding fields_of numbers_of digits_from
release-line = refl

-- `group 1 65536`
group-count-passed : entry_of (103 ∷ 114 ∷ 111 ∷ 117 ∷ 112 ∷ 9 ∷ 49 ∷ 9 ∷ 54 ∷ 53 ∷ 53 ∷ 51 ∷ 54 ∷ []) ≡ day (group (1 ∷ 65536 ∷ []))
unfolding fields_of numbers_of digits_from
group-count-passed = refl

-- `group`
group_empty : entry_of (103 ∷ 114 ∷ 111 ∷ 117 ∷ 112 ∷ []) ≡ bad
unfolding fields_of numbers_of digits_from
group_empty = refl

-- `resolve`
resolve-line : entry_of (114 ∷ 101 ∷ 115 ∷ 111 ∷ 108 ∷ 118 ∷ 101 ∷ []) ≡ day resolve
unfolding fields_of numbers_of digits_from
resolve-line = refl

-- `resolve `
resolve-with-a-tab : entry_of (114 ∷ 101 ∷ 115 ∷ 111 ∷ 108 ∷ 118 ∷ 101 ∷ 9 ∷ []) ≡ bad
unfolding fields_of numbers_of digits_from
resolve-with-a-tab = refl

-- `end`
end_line : entry_of (101 ∷ 110 ∷ 100 ∷ []) ≡ end
unfolding fields_of numbers_of digits_from
end_line = refl

-- the empty line
empty-line : entry_of ([]) ≡ bad
unfolding fields_of numbers_of digits_from
empty-line = refl

-- `end` and a carriage return
carriage-return : entry_of (101 ∷ 110 ∷ 100 ∷ 13 ∷ []) ≡ bad
unfolding fields_of numbers_of digits_from
carriage-return = refl
