-- `house::group` meets its contract: the tables hold a state, or the answer is 1.
use mathlib.Core.Path.{sym, ◌∙◌}
use Rattle.tables.proofs.States.{state-holds}
use Rattle.settling.specs.Group.{group_act}
use Rattle.answers.proofs.Outcomes.{called-held, called-none}
use Rattle.house.proofs.group.Goals as goal

pub returns-then-not-is_state : goal.returns-then-not-is_state
unfolding group_act
returns-then-not-is_state c = sym (called-none _ _ (sym c.if-not-is_state.ensures))

pub group-requires : goal.group-requires
group-requires c = state-holds (sym c.if-not-is_state.ensures)

pub returns : goal.returns
returns c = c.group.ensures ∙ sym (called-held _ _ (sym c.if-not-is_state.ensures))
