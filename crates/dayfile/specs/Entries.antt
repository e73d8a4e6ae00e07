-- What a line of the day file says (document 01, "The day file and the sheet"). The form of the whole line is judged here, and no range.
use Rattle.std.specs.Prelude.{ℕ, zero, suc, ◌+◌, ◌^◌, ◌≤◌, ◌<◌, ◌≡◌, cond, List, [], ◌∷◌, length, get_or, ℤ, nat_abs, eqb, Option, Some, None}
use Rattle.numbers.specs.Numbers.{most_digits, number_of, signed_of}
use Rattle.dayfile.specs.declared.Kind.{Kind}
use Rattle.dayfile.specs.declared.Kind.TheVariants as K
use Rattle.dayfile.specs.Fields.{fields_of, same}

-- ---- the fixed numbers of a day file

-- the most lines
abbrev pub most_lines : ℕ
most_lines = 1_000_000

-- the most counts of a group
abbrev pub most_counts : ℕ
most_counts = 64

-- the edition
abbrev pub edition : ℕ
edition = 1

-- the kind of a payment by `pay`
abbrev pub plain_kind : ℕ
plain_kind = 0

-- ---- entries

-- a line of the opening: `house` count; `member` number, balance, line
pub data OpeningLine : Type 0 where
  house : ℕ → OpeningLine
  member : ℕ → ℤ → ℕ → OpeningLine

-- a line of the day: a payment's kind, payer, number, payee, amount; `deposit` member, amount; `release` member; `group` with its counts;
-- `resolve`
pub data DayLine : Type 0 where
  pay : ℕ → ℕ → ℕ → ℕ → ℕ → DayLine
  deposit : ℕ → ℕ → DayLine
  release : ℕ → DayLine
  group : List ℕ → DayLine
  resolve : DayLine

-- what a line says: a line of the opening or of the day, `end`, or nothing that a line may say
pub data Entry : Type 0 where
  opening : OpeningLine → Entry
  day : DayLine → Entry
  end : Entry
  bad : Entry

-- ---- words

-- `house`
abbrev pub house_word : List ℕ
house_word = 104 ∷ 111 ∷ 117 ∷ 115 ∷ 101 ∷ []

-- `member`
abbrev pub member_word : List ℕ
member_word = 109 ∷ 101 ∷ 109 ∷ 98 ∷ 101 ∷ 114 ∷ []

-- `pay`
abbrev pub pay_word : List ℕ
pay_word = 112 ∷ 97 ∷ 121 ∷ []

-- `deposit`
abbrev pub deposit_word : List ℕ
deposit_word = 100 ∷ 101 ∷ 112 ∷ 111 ∷ 115 ∷ 105 ∷ 116 ∷ []

-- `release`
abbrev pub release_word : List ℕ
release_word = 114 ∷ 101 ∷ 108 ∷ 101 ∷ 97 ∷ 115 ∷ 101 ∷ []

-- `group`
abbrev pub group_word : List ℕ
group_word = 103 ∷ 114 ∷ 111 ∷ 117 ∷ 112 ∷ []

-- `resolve`
abbrev pub resolve_word : List ℕ
resolve_word = 114 ∷ 101 ∷ 115 ∷ 111 ∷ 108 ∷ 118 ∷ 101 ∷ []

-- `end`
abbrev pub end_word : List ℕ
end_word = 101 ∷ 110 ∷ 100 ∷ []

-- ---- from words and numbers to entries

-- the kind that a word names, where all its fields are numbers
abbrev pub kind_of : List ℕ → Kind
kind_of w =
    cond (same w house_word) K.House
    (cond (same w pay_word) K.Pay
    (cond (same w deposit_word) K.Deposit
    (cond (same w release_word) K.Release
    (cond (same w group_word) K.Group
    (cond (same w resolve_word) K.Resolve (cond (same w end_word) K.End K.Other))))))

-- the numbers in some fields: all of them, or those before the first field that is none or is one too many
pub data FieldNumbers : Type 0 where
  good : List ℕ → FieldNumbers
  short : List ℕ → FieldNumbers

-- x before the others
abbrev pub also : ℕ → FieldNumbers → FieldNumbers
also x (good vs) = good (x ∷ vs)
also x (short vs) = short (x ∷ vs)

-- a field before the others
abbrev pub add_to : Option ℕ → FieldNumbers → FieldNumbers
add_to (Some x) ns = also x ns
add_to None ns = short []

-- the numbers in some fields, of which there may be room
unfoldable pub numbers_of : ℕ → List (List ℕ) → FieldNumbers
numbers_of zero [] = good []
numbers_of zero (f ∷ fs) = short []
numbers_of (suc room) [] = good []
numbers_of (suc room) (f ∷ fs) = add_to (number_of f) (numbers_of room fs)

-- those that were read
abbrev pub values_of : FieldNumbers → List ℕ
values_of (good vs) = vs
values_of (short vs) = vs

-- how many there are, behind n others
abbrev pub count_from : ℕ → FieldNumbers → Option ℕ
count_from n (good vs) = Some (n + length vs)
count_from n (short vs) = None

-- an entry that has k numbers, where there are m
abbrev pub only_of : Entry → ℕ → ℕ → Entry
only_of e m k = cond (eqb m k) e bad

-- `house` edition, count
abbrev pub as_house : ℕ → ℕ → Entry
as_house e n = cond (eqb e edition) (opening (house n)) bad

-- `group` with its counts, of which there is one at least
abbrev pub group_of : List ℕ → Entry
group_of vs = cond (eqb (length vs) 0) bad (day (group vs))

-- a line of some kind with its numbers
abbrev pub of_kind : Kind → List ℕ → Entry
of_kind K.House vs = only_of (as_house (get_or vs 0 0) (get_or vs 1 0)) (length vs) 2
of_kind K.Pay vs = only_of (day (pay plain_kind (get_or vs 0 0) (get_or vs 1 0) (get_or vs 2 0) (get_or vs 3 0))) (length vs) 4
of_kind K.Deposit vs = only_of (day (deposit (get_or vs 0 0) (get_or vs 1 0))) (length vs) 2
of_kind K.Release vs = only_of (day (release (get_or vs 0 0))) (length vs) 1
of_kind K.Group vs = group_of vs
of_kind K.Resolve vs = only_of (day resolve) (length vs) 0
of_kind K.End vs = only_of end (length vs) 0
of_kind K.Other vs = bad

-- a line of some kind, bad where a field is no number or is one too many
abbrev pub of_numbers : Kind → FieldNumbers → Entry
of_numbers k (good vs) = of_kind k vs
of_numbers k (short vs) = bad

-- `member` number, balance, line, as they were read
abbrev pub as_member : Option ℕ → Option ℤ → Option ℕ → Entry
as_member (Some n) (Some b) (Some l) = opening (member n b l)
as_member (Some n) (Some b) None = bad
as_member (Some n) None l = bad
as_member None b l = bad

-- the fields of a `member` line, which are three
abbrev pub member_of : List (List ℕ) → Entry
member_of [] = bad
member_of (n ∷ []) = bad
member_of (n ∷ b ∷ []) = bad
member_of (n ∷ b ∷ l ∷ []) = as_member (number_of n) (signed_of b) (number_of l)
member_of (n ∷ b ∷ l ∷ x ∷ fs) = bad

-- a line that begins with the word w and goes on with the fields fs
abbrev pub of_word : List ℕ → List (List ℕ) → Entry
of_word w fs = cond (same w member_word) (member_of fs) (of_numbers (kind_of w) (numbers_of most_counts fs))

-- a line with its fields
abbrev pub of_fields : List (List ℕ) → Entry
of_fields [] = bad
of_fields (w ∷ fs) = of_word w fs

-- what a line says
abbrev pub entry_of : List ℕ → Entry
entry_of s = of_fields (fields_of s)

-- ---- ranges

-- all of them have at most 18 digits
abbrev pub AllSmall : List ℕ → Type 0
AllSmall [] = Unit
AllSmall (x ∷ vs) = (x < 10 ^ most_digits) × AllSmall vs

-- each number of a line of the opening has at most 18 digits,
abbrev pub SmallOpening : OpeningLine → Type 0
SmallOpening (house n) = n < 10 ^ most_digits
SmallOpening (member n b l) = (n < 10 ^ most_digits) × (nat_abs b < 10 ^ most_digits) × (l < 10 ^ most_digits)

-- so has each of a line of the day, and a group has 1 to 64 counts;
abbrev pub SmallDay : DayLine → Type 0
SmallDay (pay k a b c d) = (k ≡ plain_kind) × (a < 10 ^ most_digits) × (b < 10 ^ most_digits) × (c < 10 ^ most_digits) × (d < 10 ^ most_digits)
SmallDay (deposit a b) = (a < 10 ^ most_digits) × (b < 10 ^ most_digits)
SmallDay (release a) = a < 10 ^ most_digits
SmallDay (group vs) = AllSmall vs × (1 ≤ length vs) × (length vs ≤ most_counts)
SmallDay resolve = Unit

-- and so has each of an entry
abbrev pub SmallEntry : Entry → Type 0
SmallEntry (opening o) = SmallOpening o
SmallEntry (day d) = SmallDay d
SmallEntry end = Unit
SmallEntry bad = Unit
