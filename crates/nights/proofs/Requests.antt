-- The lines of a day open nothing: their requests stay inside it.
use mathlib.Core.List.{List, [], ◌∷◌}
use Prim.Native.Nat.{ℕ}
use Rattle.tables.specs.Layout.{Tables}
use Rattle.dayfile.specs.Entries as E
use Rattle.dayfile.specs.Entries.{DayLine, Entry}
use Rattle.dayfile.specs.Lines.{Line}
use Rattle.desk.specs.Sheet.{entry_in}
use Rattle.days.specs.Days.{after_all, Inside}
use Rattle.days.proofs.Chains.{inside-join}
use Rattle.nights.specs.Files.{request_of, requests_of, requests_in}

-- a line,
pub line-inside : (n : ℕ) (e : Entry) (T : Tables) → Inside (requests_of n e) T
line-inside n (E.opening o) T = tt
line-inside n (E.day d) T = go d
  where
    go : (d : DayLine) → Inside (request_of n d ∷ []) T
    go (E.pay kind m k q x) = (tt, tt)
    go (E.deposit m x) = (tt, tt)
    go (E.release m) = (tt, tt)
    go (E.group k) = (tt, tt)
    go E.resolve = (tt, tt)
line-inside n E.end T = tt
line-inside n E.bad T = tt

-- and lines, one after the other
pub lines-inside : (n : ℕ) (ls : List Line) (T : Tables) → Inside (requests_in n ls) T
lines-inside n [] T = tt
lines-inside n (l ∷ ls) T =
    let qs = requests_of n (entry_in l) in
    inside-join qs (requests_in n ls) T (line-inside n (entry_in l) T) (lines-inside n ls (after_all qs T))
