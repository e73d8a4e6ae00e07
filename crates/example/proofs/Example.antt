-- Document 01's example: the sheet of its day file follows from the definitions alone. A crate of its own, since it takes ten seconds.
use mathlib.Core.Path.{◌≡◌, refl}
use mathlib.Core.List.{List, [], ◌∷◌}
use Prim.Native.Nat.{ℕ}
use Rattle.rule.specs.Lists.{listing, fill, fill_at}
use Rattle.rule.specs.Kernel.{put}
use Rattle.rule.specs.Payment.{payer_of, payee_of, amount_of, flags_of}
use Rattle.rule.specs.Queue.{worth}
use Rattle.rule.specs.House.{sent, received}
use Rattle.rule.specs.Resolution.{resolution}
use Rattle.tables.specs.State.{every}
use Rattle.booking.specs.Booking.{booked_in}
use Rattle.answers.specs.Outcome.{held}
use Rattle.opening.specs.Open.{opened_in, open_act}
use Rattle.entry.specs.Submit.{submitted_in, submit_act}
use Rattle.settling.specs.Release.{release_act}
use Rattle.resolving.specs.Resolve.{largest_in}
use Rattle.sets.specs.Sets.{size_of, lowest_of}
use Rattle.numbers.specs.Numbers.{digits_from, last_digits, width_up_to}
use Rattle.dayfile.specs.Fields.{fields_of}
use Rattle.dayfile.specs.Entries.{numbers_of}
use Rattle.sheet.specs.Lines.{tabbed}
use Rattle.dayfile.specs.Lines.{lines_from}
use Rattle.dayfile.specs.Chunks.{run_of}
use Rattle.desk.specs.Sheet.{sheet_of}

-- the input
abbrev pub example_file : List ℕ
example_file =
    104 ∷ 111 ∷ 117 ∷ 115 ∷ 101 ∷ 9 ∷ 49 ∷ 9 ∷ 50 ∷ 10 ∷
    109 ∷ 101 ∷ 109 ∷ 98 ∷ 101 ∷ 114 ∷ 9 ∷ 49 ∷ 9 ∷ 49 ∷ 48 ∷ 9 ∷ 48 ∷ 10 ∷
    109 ∷ 101 ∷ 109 ∷ 98 ∷ 101 ∷ 114 ∷ 9 ∷ 50 ∷ 9 ∷ 48 ∷ 9 ∷ 48 ∷ 10 ∷
    112 ∷ 97 ∷ 121 ∷ 9 ∷ 49 ∷ 9 ∷ 49 ∷ 9 ∷ 50 ∷ 9 ∷ 51 ∷ 48 ∷ 10 ∷
    112 ∷ 97 ∷ 121 ∷ 9 ∷ 50 ∷ 9 ∷ 49 ∷ 9 ∷ 49 ∷ 9 ∷ 50 ∷ 48 ∷ 10 ∷
    112 ∷ 97 ∷ 121 ∷ 9 ∷ 49 ∷ 9 ∷ 50 ∷ 9 ∷ 50 ∷ 9 ∷ 53 ∷ 10 ∷
    114 ∷ 101 ∷ 108 ∷ 101 ∷ 97 ∷ 115 ∷ 101 ∷ 9 ∷ 50 ∷ 10 ∷
    114 ∷ 101 ∷ 115 ∷ 111 ∷ 108 ∷ 118 ∷ 101 ∷ 10 ∷
    101 ∷ 110 ∷ 100 ∷ 10 ∷ []

-- the whole sheet
abbrev pub example_sheet : List ℕ
example_sheet =
    51 ∷ 9 ∷ 111 ∷ 112 ∷ 101 ∷ 110 ∷ 9 ∷ 50 ∷ 9 ∷ 49 ∷ 48 ∷ 10 ∷
    52 ∷ 9 ∷ 113 ∷ 117 ∷ 101 ∷ 117 ∷ 101 ∷ 100 ∷ 9 ∷ 49 ∷ 9 ∷ 49 ∷ 10 ∷
    53 ∷ 9 ∷ 113 ∷ 117 ∷ 101 ∷ 117 ∷ 101 ∷ 100 ∷ 9 ∷ 50 ∷ 9 ∷ 49 ∷ 10 ∷
    54 ∷ 9 ∷ 113 ∷ 117 ∷ 101 ∷ 117 ∷ 101 ∷ 100 ∷ 9 ∷ 49 ∷ 9 ∷ 50 ∷ 10 ∷
    55 ∷ 9 ∷ 114 ∷ 101 ∷ 102 ∷ 117 ∷ 115 ∷ 101 ∷ 100 ∷ 9 ∷ 57 ∷ 10 ∷
    56 ∷ 9 ∷ 114 ∷ 101 ∷ 115 ∷ 111 ∷ 108 ∷ 118 ∷ 101 ∷ 9 ∷ 50 ∷ 9 ∷ 50 ∷ 9 ∷ 53 ∷ 48 ∷ 9 ∷ 49 ∷ 9 ∷ 49 ∷ 10 ∷
    98 ∷ 97 ∷ 108 ∷ 97 ∷ 110 ∷ 99 ∷ 101 ∷ 9 ∷ 49 ∷ 9 ∷ 48 ∷ 9 ∷ 49 ∷ 10 ∷
    98 ∷ 97 ∷ 108 ∷ 97 ∷ 110 ∷ 99 ∷ 101 ∷ 9 ∷ 50 ∷ 9 ∷ 49 ∷ 48 ∷ 9 ∷ 48 ∷ 10 ∷
    109 ∷ 111 ∷ 110 ∷ 101 ∷ 121 ∷ 9 ∷ 49 ∷ 48 ∷ 10 ∷ []

pub example-computes : sheet_of example_file ≡ example_sheet
unfolding run_of lines_from fields_of numbers_of digits_from last_digits width_up_to tabbed held open_act opened_in fill listing fill_at every
    submit_act submitted_in release_act largest_in resolution put sent received worth payee_of payer_of amount_of flags_of booked_in size_of lowest_of
example-computes = refl
