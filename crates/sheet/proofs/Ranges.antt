-- From the ranges of what a line says: its numbers keep their value with a sign, have at most 18 digits, and make a line of at most 80
-- bytes.
use native.Mathlib.Omega.{arith}
use mathlib.Core.Path.{◌≡◌, sym, ap, subst}
use Prim.Native.Nat.{ℕ, suc, ◌≤◌, ◌<◌, ◌^◌}
use lib.ListN.{length, length-append}
use lib.IntN.{ℤ, nat_abs}
use mathlib.Core.List.{List}
use Rattle.std.specs.Prelude.{Option}
use mir.Syntax.{w64}
use mir.Val.{to_z, of_z}
use mir.Facts.{to_z-of_z}
use Rattle.numbers.specs.Numbers.{most_digits, digits_of, signed_text}
use Rattle.numbers.proofs.Signs.{held_small}
use Rattle.numbers.proofs.Writing.{length-digits_of, length-signed_text}
use Rattle.sheet.specs.declared.Says.{Says}
use Rattle.sheet.specs.declared.Says.TheVariants as S
use Rattle.sheet.specs.Lines.{Parts, parts_of, shown_if, tabbed, line_text, text_of}
use Rattle.sheet.specs.Room.{least_room, Ranges, AllShort}

-- a number that is handed on as 64 bits with a sign
pub handed-on : (y z : ℤ) → y ≡ z → nat_abs z < 10 ^ most_digits → to_z w64 (of_z w64 y) ≡ z
handed-on y z e h = rw e (to_z-of_z {w = w64} (held_small z h))

pub all_short : (s : Says) → Ranges s → AllShort (parts_of s).numbers
all_short (S.Open line count sum) h = (omega arith, (omega arith, tt))
all_short (S.Queued line payer number) h = (omega arith, (omega arith, tt))
all_short (S.Deposited line member balance) h = (omega arith, (omega arith, tt))
all_short (S.Released line payer number amount) h = (omega arith, (omega arith, (omega arith, tt)))
all_short (S.Group line payments sum) h = (omega arith, (omega arith, tt))
all_short (S.Resolve line verdict payments sum waiting lowest) h = (omega arith, (omega arith, (omega arith, (omega arith, (omega arith, tt)))))
all_short (S.Refused line code) h = (omega arith, tt)
all_short (S.Balance member balance waiting) h = (omega arith, (omega arith, (omega arith, tt)))
all_short (S.Money sum) h = (omega arith, tt)

number-le : (x k : ℕ) → x < 10 ^ (suc k) → length (digits_of x) ≤ suc k
number-le x k h = length-digits_of x (suc k) (omega arith) h

signed_le : (z : ℤ) → nat_abs z < 10 ^ 16 → length (signed_text z) ≤ 17
signed_le z h = length-signed_text z 16 (omega arith) h

-- every line has at most 80 bytes
pub text-le : (s : Says) → Ranges s → length (text_of s) ≤ least_room
unfolding tabbed
text-le (S.Open line count sum) h = simp length-append (omega (arith, number-le line 6 h.0, number-le count 1 h.1, signed_le sum h.2))
text-le (S.Queued line payer number) h = simp length-append (omega (arith, number-le line 6 h.0, number-le payer 1 h.1, number-le number 9 h.2))
text-le (S.Deposited line member balance) h = simp length-append (omega (arith, number-le line 6 h.0, number-le member 1 h.1, signed_le balance h.2))
text-le (S.Released line payer number amount) h = simp length-append
    (omega (arith, number-le line 6 h.0, number-le payer 1 h.1, number-le number 9 h.2, number-le amount 12 h.3))
text-le (S.Group line payments sum) h = simp length-append (omega (arith, number-le line 6 h.0, number-le payments 3 h.1, number-le sum 16 h.2))
text-le (S.Resolve line verdict payments sum waiting lowest) h =
    simp length-append (omega (
      arith,
      number-le line 6 h.0,
      number-le verdict 1 h.1,
      number-le payments 3 h.2,
      number-le sum 16 h.3,
      number-le waiting 1 h.4,
      number-le lowest 1 h.5,
    ))
text-le (S.Refused line code) h = simp length-append (omega (arith, number-le line 6 h.0, number-le code 1 h.1))
text-le (S.Balance member balance waiting) h = simp length-append
    (omega (arith, number-le member 1 h.0, signed_le balance h.1, number-le waiting 3 h.2))
text-le (S.Money sum) h = simp length-append (omega (arith, signed_le sum h))

-- the parts of a line have room where it has, and its numbers are short
pub fits : (s : Says) (out : List ℕ) (line : Option ℕ) (word : List ℕ) (zs : List ℤ) → (least_room ≤ length out) × Ranges s → shown_if line word zs ≡ parts_of s
    → (length (line_text (shown_if line word zs)) ≤ length out) × AllShort zs
fits s out line word zs h e =
    let m : length (line_text (shown_if line word zs)) ≡ length (text_of s) = ap (λ (p : Parts). length (line_text p)) e in
    (omega (arith, text-le s h.1), subst (λ (p : Parts). AllShort p.numbers) (sym e) (all_short s h.1))
