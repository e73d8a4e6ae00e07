-- `booking::book` meets its contract: each list is that of its step, on what the tables held before.
use mathlib.Core.Path.{sym, ◌∙◌}
use native.Mathlib.Omega.{arith}
use lib.Seq.{length-take-le}
use Rattle.tables.specs.Sizes.{members}
use Rattle.tables.proofs.Same.{tables-same}
use Rattle.booking.specs.Booking.{listed, booked_in}
use Rattle.booking.proofs.Booked.{closed-booked, sum-sent, countable, positions-booked}
use Rattle.booking.proofs.Entering.{words-waiting}
use Rattle.booking.proofs.book.Goals as goal

pub slice_bounds-copy_from_slice-end-2 : goal.slice_bounds-copy_from_slice-end-2
slice_bounds-copy_from_slice-end-2 c = sym (length-take-le members c.args.accounts.now (omega (arith, c.requires.counted.holds.accounts.long)))

pub copy_from_slice-requires : goal.copy_from_slice-requires
copy_from_slice-requires c = length-take-le members c.args.accounts.now (omega (arith, c.requires.counted.holds.accounts.long)) ∙ sym c.requires.weighed.members

pub close_up-sum-requires : goal.close_up-sum-requires
close_up-sum-requires c = words-waiting c.requires.counted.holds

pub count_off-requires : goal.count_off-requires
count_off-requires c = countable c.requires.counted (λ i. omega (arith, c.slice_known-1.given i))

pub returns : goal.returns
unfolding booked_in
returns c =
    let h = c.requires.counted.holds in record {
      pays_after = tables-same
          (rw c.copy_from_slice.ensures.after (positions-booked c.requires.weighed))
          c.count_off.ensures
          (rw (c.close_up-sum.ensures.pays_after, c.of.ensures) (closed-booked h (listed c.args.counts.now)));
      value = rw (c.close_up-sum.ensures.value, c.of.ensures) (sum-sent h (listed c.args.counts.now));
    }
