-- `house::submit` meets its contract: the tables hold a state, or the answer is 1.
use mathlib.Core.Path.{sym, ◌∙◌}
use Rattle.tables.proofs.States.{state-holds}
use Rattle.entry.specs.Submit.{submit_act}
use Rattle.answers.proofs.Outcomes.{called-held, called-none}
use Rattle.house.proofs.submit.Goals as goal

pub returns-then-not-is_state : goal.returns-then-not-is_state
unfolding submit_act
returns-then-not-is_state c = sym (called-none _ _ (sym c.if-not-is_state.ensures))

pub submit-requires : goal.submit-requires
submit-requires c = state-holds (sym c.if-not-is_state.ensures)

pub returns : goal.returns
returns c = c.submit.ensures ∙ sym (called-held _ _ (sym c.if-not-is_state.ensures))
