-- What a call on lent bytes replies: its code, and the bytes after it.
use Rattle.std.specs.Prelude.{cond, List, ℕ, length, Result, Ok, Err, ⊤}
use Rattle.tables.specs.Layout.{Tables}
use Rattle.words.specs.Row.{put_row, as_it_is}
use Rattle.answers.specs.Codes.{code_of}
use Rattle.answers.specs.Outcome.{Outcome}
use Rattle.answers.specs.declared.Refusal.{Refusal}
use Rattle.answers.specs.declared.Refusal.TheVariants.{State}
use Rattle.lent.specs.Bytes.{tables_in, with_tables, roomy}

-- the code of what a call came to: 0 where it accepts
abbrev pub code_in : Result ⊤ Refusal → ℕ
code_in (Ok u) = 0
code_in (Err r) = code_of r

-- what a host lends to be written: the tables, the list of counts and the answer. A call that is lent no counts, or no answer, is lent none of
-- their bytes.
pub record Lent : Type 0 where
  pub tables : List ℕ
  pub counts : List ℕ
  pub answer : List ℕ

abbrev pub lends : List ℕ → List ℕ → List ℕ → Lent
lends s u t = record { tables = s; counts = u; answer = t }

-- what is told of an answer: where it accepts, counts of 2 bytes and parts of 8 bytes; else the refusal
pub data Told : Type 0 where
  yes : (counts parts : List ℕ) → Told
  no : Refusal → Told

-- this is told, and W are the lists after the call: the code, and the bytes. A refusal writes nothing.
abbrev pub written : Lent → Tables → Told → ℕ × Lent
written x W (yes k p) = (0, lends (with_tables x.tables W) (put_row as_it_is 2 x.counts 0 k) (put_row as_it_is 8 x.answer 0 p))
written x W (no r) = (code_of r, x)

-- on bytes that are long enough, what the house does to the lists in them
abbrev pub on_bytes : {A : Type 0} → (A → Told) → (Tables → Outcome A) → Lent → ℕ × Lent
on_bytes tell f x = written x (f (tables_in x.tables)).after (tell (f (tables_in x.tables)).answer)

-- on any bytes: tables that are too short, or an answer with less than `least` bytes, are refused with 1
abbrev pub reply : {A : Type 0} → ℕ → (A → Told) → (Tables → Outcome A) → Lent → ℕ × Lent
reply least tell f x = cond (roomy (length x.tables) (length x.answer) least) (on_bytes tell f x) (code_of State, x)
