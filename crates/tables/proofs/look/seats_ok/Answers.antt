-- `tables::look::seats_ok` meets its contract: `all` tests each account.
use mathlib.Core.Path.{refl, ◌∙◌}
use borrow.Author.Tests.{tests}
use Rattle.std.proofs.Common.{rules}
use Rattle.std.proofs.lemmas.Iterator.{YieldsList-from_range}
use Rattle.std.proofs.lemmas.Iterator.Search.{all_from_yields_List}
use Rattle.tables.specs.Sizes.{members}
use Rattle.tables.specs.State.{account_at}
use Rattle.tables.proofs.Every.{every-below}
use Rattle.tables.proofs.look.seats_ok.Goals as goal

pub returns : goal.returns
returns c =
    let test = account_at c.args.n c.args.accounts.now in
    all_from_yields_List test _ _ _ c.all.ensures.ran (YieldsList-from_range 0 members members refl refl) (λ x b q k. search (rules, tests))
    ∙ every-below test test members (λ k h. refl)
