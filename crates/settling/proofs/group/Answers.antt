-- `settling::group` meets its contract: no loop; the counts, widened to all seats, are tried.
use borrow.Author.Rules.{rules}
use mathlib.Core.Path.{sym, ap, ◌∙◌}
use Rattle.rule.specs.Kernel.{Counts}
use Rattle.tables.specs.Layout.{Tables, tables}
use Rattle.answers.specs.Outcome.{held}
use Rattle.answers.proofs.Outcomes.{held-bad}
use Rattle.settling.specs.Group.{book_act, group_act}
use Rattle.settling.proofs.Settles.{counts-fit, group-bad, group-tried, group-counted}
use Rattle.settling.proofs.group.Goals as goal

pub returns-then-not-are_counts : goal.returns-then-not-are_counts
unfolding group_act
returns-then-not-are_counts c =
    let lent : Tables = tables c.args.accounts.now c.args.counters.now c.args.pays.now in
    sym (held-bad (group_act c.args.counts.now) lent (group-bad c.requires c.args.counts.now (sym (counts-fit c.requires c.args.counts.now) ∙ cc)))

pub try_book-requires : goal.try_book-requires
try_book-requires c =
    group-counted c.requires c.args.counts.now c.widened-all.result (sym (counts-fit c.requires c.args.counts.now) ∙ cc) (search rules) c.widened-all.ensures

pub returns : goal.returns
returns c =
    let lent : Tables = tables c.args.accounts.now c.args.counters.now c.args.pays.now in
    c.try_book.ensures ∙ ap (λ (z : Counts). held (book_act z) lent) c.widened-all.ensures
    ∙ group-tried c.requires c.args.counts.now (sym (counts-fit c.requires c.args.counts.now) ∙ cc)
