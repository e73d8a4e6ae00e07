-- `daylines::group` meets its contract: no loop.
use mathlib.Core.Path.{ap, ◌∙◌}
use Rattle.tables.specs.Layout.{Tables, tables}
use Rattle.answers.proofs.Outcomes.{answer-is}
use Rattle.daylines.specs.Calls.{saying, group_says}
use Rattle.daylines.proofs.Settling.{group-narrowed}
use Rattle.daylines.proofs.group.Goals as goal

pub returns-in-Ok : goal.returns-in-Ok
returns-in-Ok c = let t : Tables = tables c.args.accounts.now c.args.counters.now c.args.pays.now in
    let n = c.narrowed-k in
    let same = group-narrowed t c.requires.0 c.args.counts.now n.result c.requires.1 n.ensures.0 n.ensures.1 in
    ap (saying (group_says c.args.n)) (answer-is c.in-Ok.is (c.group.ensures ∙ same))

pub returns-in-Err : goal.returns-in-Err
returns-in-Err c = let t : Tables = tables c.args.accounts.now c.args.counters.now c.args.pays.now in
    let n = c.narrowed-k in
    let same = group-narrowed t c.requires.0 c.args.counts.now n.result c.requires.1 n.ensures.0 n.ensures.1 in
    rw c.refused.ensures (ap (saying (group_says c.args.n)) (answer-is c.in-Err.is (c.group.ensures ∙ same)))
