-- `booking::covered` meets its contract: `all` tests each member.
use mathlib.Core.Path.{refl, ◌∙◌}
use mathlib.Core.Bool.{not}
use native.Mathlib.Omega.{arith}
use lib.IntN.{pos, ◌-ℤ◌}
use lib.Signed.{lt_z}
use borrow.Author.Tests.{tests}
use Rattle.std.proofs.Common.{rules, ℕ, get_or}
use Rattle.std.proofs.lemmas.Iterator.{YieldsList-from_range, serves_from_Range}
use Rattle.std.proofs.lemmas.Iterator.Search.{all_from_yields_List}
use Rattle.rule.proofs.Ints.{plain}
use Rattle.tables.specs.Layout.{count_of, line_of}
use Rattle.tables.proofs.Every.{every-below}
use Rattle.booking.proofs.Covering.{covered-not}
use Rattle.booking.specs.Booking.{covered_at}
use Rattle.booking.proofs.covered.Goals as goal

pub all-requires-clause-callable : goal.all-requires-clause-callable
all-requires-clause-callable c =
    let few = c.requires.0.few in
    let long = c.requires.1.long in
    serves_from_Range (λ x q r. search rules) (λ x a b. let line = (c.requires.1.holders x b).line in search (rules, plain))

pub returns : goal.returns
returns c =
    let positions = c.args.positions.now in
    let accounts = c.args.accounts.now in
    let n = count_of c.args.counters.now in
    let test = λ (i : ℕ). not (lt_z (get_or positions i (pos 0)) (pos 0 -ℤ line_of accounts i)) in
    all_from_yields_List test _ _ _ c.all.ensures.ran (YieldsList-from_range 0 n n refl (omega arith)) (λ x b q k. search (rules, tests, plain))
    ∙ every-below test (covered_at positions accounts) n (λ k h. covered-not (get_or positions k (pos 0)) (line_of accounts k))
