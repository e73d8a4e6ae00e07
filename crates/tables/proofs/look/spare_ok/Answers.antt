-- `tables::look::spare_ok` meets its contract: `all` tests each spare account.
use native.Mathlib.Omega.{arith}
use mathlib.Core.Path.{refl, ◌∙◌}
use borrow.Author.Tests.{tests}
use lib.IntN.{pos}
use Rattle.std.specs.Ordering.{int_eq}
use Rattle.std.proofs.Common.{rules, ◌+◌, get_or}
use Rattle.std.proofs.lemmas.Iterator.{YieldsList-from_slice}
use Rattle.std.proofs.lemmas.Iterator.Search.{all_from_yields_List}
use Rattle.tables.specs.Layout.{spare_accounts, spare_accounts_at}
use Rattle.tables.proofs.Every.{every-part}
use Rattle.tables.proofs.Tests.{zero-same}
use Rattle.tables.proofs.look.spare_ok.Goals as goal

pub returns : goal.returns
returns c =
    let a = c.args.accounts.now in
    all_from_yields_List (λ z. int_eq z (pos 0)) _ _ _ c.all.ensures.ran (YieldsList-from_slice _ c.iter.ensures.rest) (λ x b q k. search (rules, tests))
    ∙ every-part _ _ (pos 0) a spare_accounts_at _ spare_accounts refl (omega arith) (λ k h. zero-same (get_or a (spare_accounts_at + k) (pos 0)))
