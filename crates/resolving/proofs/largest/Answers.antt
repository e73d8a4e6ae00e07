-- `resolving::largest` meets its contract: no loop; the finder starts from the balances and lines that the tables hold.
use borrow.Author.Rules.{rules}
use mathlib.Core.Path.{refl}
use lib.ListN.{replicate}
use Rattle.tables.specs.Sizes.{members}
use Rattle.resolving.proofs.Resolving.{lines_read, can-find, largest-found, found-weighed}
use Rattle.resolving.proofs.largest.Goals as goal

pub resolve-requires : goal.resolve-requires
resolve-requires c = let p = c.requires in
    can-find p.holds p.balances c.balances-lines.result (search rules) (lines_read p.holds _ c.balances-lines.ensures) (replicate members 0) refl

pub returns-clause-largest_is : goal.returns-clause-largest_is
returns-clause-largest_is c = let p = c.requires in
    largest-found p.holds p.balances c.balances-lines.result (search rules) (lines_read p.holds _ c.balances-lines.ensures) c.resolve.ensures c.count_below.ensures

pub returns-clause-weighed : goal.returns-clause-weighed
returns-clause-weighed c = let p = c.requires in
    found-weighed p.holds p.balances c.balances-lines.result (search rules) (lines_read p.holds _ c.balances-lines.ensures) c.resolve.ensures c.count_below.ensures
