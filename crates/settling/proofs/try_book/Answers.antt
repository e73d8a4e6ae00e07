-- `settling::try_book` meets its contract: no loop; the test of the positions is the rule's, of each member.
use mathlib.Core.Path.{sym, ap₂, ◌∙◌}
use Prim.Native.Nat.{ℕ}
use Rattle.std.specs.Prelude.{Ok}
use Rattle.tables.specs.Layout.{Tables, tables}
use Rattle.tables.proofs.Tests.{flag-no, flag-yes}
use Rattle.booking.specs.Booking.{listed}
use Rattle.booking.proofs.Covering.{covered-is}
use Rattle.answers.specs.Outcome.{outcome}
use Rattle.answers.proofs.Outcomes.{held-fine, held-bad}
use Rattle.settling.specs.Group.{book_act}
use Rattle.settling.proofs.Settles.{tally-members}
use Rattle.settling.proofs.try_book.Goals as goal

pub returns-then-not-covered : goal.returns-then-not-covered
unfolding book_act
returns-then-not-covered c =
    let lent : Tables = tables c.args.accounts.now c.args.counters.now c.args.pays.now in
    let e = sym (covered-is c.requires.holds c.weigh-positions.ensures) ∙ flag-no c.covered.ensures c.if-not-covered.true in
    sym (held-bad (book_act (listed c.args.counts.now)) lent (rw e))

pub returns : goal.returns
unfolding book_act
returns c =
    let lent : Tables = tables c.args.accounts.now c.args.counters.now c.args.pays.now in
    let e = sym (covered-is c.requires.holds c.weigh-positions.ensures) ∙ flag-yes c.covered.ensures c.if-not-covered.false in
    let n = c.from.ensures ∙ c.tally.ensures ∙ tally-members c.requires in
    ap₂ (λ r (W : Tables). outcome r W) (ap₂ (λ (k s : ℕ). Ok (record { payments = k; sum = s })) n c.book-sum.ensures.value) c.book-sum.ensures.pays_after
    ∙ sym (held-fine (book_act (listed c.args.counts.now)) lent (rw e))
