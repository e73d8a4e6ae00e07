-- The code that a host gets (demand 1).
use Rattle.answers.specs.Codes.{first, Judged}
use Rattle.answers.specs.Outcome.{judgement}
use Rattle.opening.specs.Open.{open_act}
use Rattle.entry.specs.Deposit.{deposit_act}
use Rattle.entry.specs.Submit.{submit_act}
use Rattle.settling.specs.Release.{release_act}
use Rattle.settling.specs.Group.{group_act}
use Rattle.resolving.specs.Resolve.{resolve_act}
use Rattle.lent.specs.Bytes.{tables_in, signed_in, counts_in}
use Rattle.lent.specs.Reply.{Lent}
-- the number of a judgement: 0 where nothing is wrong
pub use Rattle.lent.specs.Reply.{code_in}
use Rattle.lent.specs.Asks.{Ask, opens, deposits, submits, releases, groups, resolves}

-- how a call is judged by the tables in the lent bytes x
abbrev pub judged_on : Ask → Lent → Judged
judged_on (opens n u v) x = first ((open_act n (signed_in u) (signed_in v)).tests (tables_in x.tables))
judged_on (deposits m a) x = judgement (deposit_act m a) (tables_in x.tables)
judged_on (submits m n q a) x = judgement (submit_act m n q a) (tables_in x.tables)
judged_on (releases m) x = judgement (release_act m) (tables_in x.tables)
judged_on (groups u) x = judgement (group_act (counts_in u)) (tables_in x.tables)
judged_on resolves x = judgement (resolve_act (counts_in x.counts)) (tables_in x.tables)
