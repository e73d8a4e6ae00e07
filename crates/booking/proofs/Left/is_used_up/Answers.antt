-- `booking::Left::is_used_up` meets its contract: where the counts are 0, no payment leaves.
use mathlib.Core.Path.{sym, ◌∙◌}
use borrow.Author.Tests.{eqb-true}
use Rattle.booking.proofs.Passing.{none_left}
use Rattle.booking.proofs.Left.is_used_up.Goals as goal

pub returns : goal.returns
returns c u ws = none_left c.args.self.now.counts ws (sym c.args.self.now.summed ∙ eqb-true _ 0 u)
