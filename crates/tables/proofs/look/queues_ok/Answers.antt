-- `tables::look::queues_ok` meets its contract: `all` tests each member's numbers, of which as many wait as were counted.
use mathlib.Core.Path.{refl, ap, ◌∙◌}
use borrow.Author.Tests.{tests}
use Rattle.std.proofs.Common.{rules, ℕ, get_or}
use Rattle.std.proofs.lemmas.Iterator.{YieldsList-from_range}
use Rattle.std.proofs.lemmas.Iterator.Search.{all_from_yields_List}
use Rattle.tables.specs.Layout.{count_of, last_of, settled_of}
use Rattle.tables.specs.Sizes.{members}
use Rattle.tables.specs.State.{queue_ok, queue_at, queues_ok}
use Rattle.tables.proofs.Every.{every-below}
use Rattle.tables.proofs.look.queues_ok.Goals as goal

pub returns : goal.returns
unfolding queues_ok
returns c =
    let t = c.args.counters.now in
    let waits = c.count_waiting-waits.result in
    let test = λ (i : ℕ). queue_ok (count_of t) i (get_or waits i 0) (last_of t i) (settled_of t i) in
    all_from_yields_List test _ _ _ c.all.ensures.ran (YieldsList-from_range 0 members members refl refl) (λ x b q k. search (rules, tests))
    ∙ every-below test (queue_at t c.args.pays.now) members (λ k h. ap (λ w. queue_ok (count_of t) k w (last_of t k) (settled_of t k)) (c.count_waiting-waits.ensures k h))
