-- `house::deposit` meets its contract: the tables hold a state, or the answer is 1.
use mathlib.Core.Path.{sym, ◌∙◌}
use Rattle.tables.proofs.States.{state-holds}
use Rattle.entry.specs.Deposit.{deposit_act}
use Rattle.answers.proofs.Outcomes.{called-held, called-none}
use Rattle.house.proofs.deposit.Goals as goal

pub returns-then-not-is_state : goal.returns-then-not-is_state
unfolding deposit_act
returns-then-not-is_state c = sym (called-none _ _ (sym c.if-not-is_state.ensures))

pub deposit-requires : goal.deposit-requires
deposit-requires c = state-holds (sym c.if-not-is_state.ensures)

pub returns : goal.returns
returns c = c.deposit.ensures ∙ sym (called-held _ _ (sym c.if-not-is_state.ensures))
