-- `house::resolve` meets its contract: the tables hold a state, or the answer is 1.
use mathlib.Core.Path.{sym, ◌∙◌}
use Rattle.tables.proofs.States.{state-holds}
use Rattle.resolving.specs.Resolve.{resolve_act}
use Rattle.answers.proofs.Outcomes.{called-held, called-none}
use Rattle.house.proofs.resolve.Goals as goal

pub returns-then-not-is_state : goal.returns-then-not-is_state
unfolding resolve_act
returns-then-not-is_state c = record { pays_after = sym (called-none _ _ (sym c.if-not-is_state.ensures)); told_largest = tt }

pub resolve-requires : goal.resolve-requires
resolve-requires c = state-holds (sym c.if-not-is_state.ensures)

pub returns : goal.returns
returns c = record { pays_after = c.resolve.ensures.pays_after ∙ sym (called-held _ _ (sym c.if-not-is_state.ensures)); told_largest = c.resolve.ensures.told_largest }
