-- `opening::holders_ok` meets its contract: the pairs of the two lists are the members.
use borrow.Author.Tests.{tests}
use Rattle.std.proofs.Common.{rules}
use Rattle.std.proofs.lemmas.Iterator.{cases_from_all, YieldsList-from_slice, YieldsList-from_zip}
use Rattle.std.specs.Prelude.{true, false}
use Rattle.opening.proofs.Pairs.{Said, pairs-every}
use Rattle.opening.proofs.holders_ok.Goals as goal

pub returns : goal.returns
returns c =
    let given = YieldsList-from_zip {s = c.zip.result} (YieldsList-from_slice c.args.balances.now cc) (YieldsList-from_slice c.args.lines.now cc) in
    pairs-every c.args.balances.now c.args.lines.now c.requires c.all.result
    (cases_from_all c.all.new.self _ _ (Said true) (Said false) c.all.ensures.ran given (λ x q k. search (rules, tests)) (λ x q k. search (rules, tests)))
