-- `settling::are_counts` meets its contract: the chain passes the counts that are within what waits, and ends at the first that is not.
use borrow.Author.Rules.{rules}
use borrow.Author.Tests.{tests}
use Rattle.std.proofs.lemmas.Iterator.{cases_from_all, YieldsList-from_slice}
use Rattle.std.proofs.lemmas.Iterator.Consumers.{YieldsList-from_enumerate}
use Rattle.settling.proofs.Counts.{Within, Above, fit_is}
use Rattle.settling.proofs.are_counts.Goals as goal

pub returns-then-counts-counters : goal.returns-then-counts-counters
returns-then-counts-counters c = let w = c.args.counters.now in
    fit_is w c.args.counts.now _ c.if-counts-counters.true (cases_from_all _ _ _ (Within w) (Above w) c.all.ensures.ran
    (YieldsList-from_enumerate (YieldsList-from_slice c.args.counts.now cc) cc) (λ x q k. search (rules, tests)) (λ x q k. search (rules, tests)))
