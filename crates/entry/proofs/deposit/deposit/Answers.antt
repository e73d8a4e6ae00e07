-- `entry::deposit::deposit` meets its contract: a judgement that found nothing gives what `credit` asks.
use mathlib.Core.Path.{ap₂, sym, ◌∙◌}
use native.Mathlib.Omega.{arith}
use Rattle.std.proofs.lemmas.Result.{err_from_is_err_and}
use Rattle.rule.proofs.Ints.{back}
use Rattle.tables.specs.Layout.{tables}
use Rattle.answers.specs.Outcome.{outcome}
use Rattle.std.specs.Prelude.{Ok}
use Rattle.tables.proofs.Balances.{accounts-bounded}
use Rattle.answers.proofs.Outcomes.{held-fine, held-bad}
use Rattle.entry.specs.Deposit.{deposit_act, deposited_in}
use Rattle.entry.proofs.Judging.{deposit-fine}
use Rattle.entry.proofs.deposit.deposit.Goals as goal

pub returns-in_err-judge_deposit : goal.returns-in_err-judge_deposit
unfolding deposit_act
returns-in_err-judge_deposit c =
    let p = err_from_is_err_and c.from_residual.result c.from_residual.ensures.1 in
    rw (p.1, p.2) (sym (held-bad _ _ (sym c.judge_deposit.ensures ∙ c.in_err-judge_deposit.was)))

pub credit-requires : goal.credit-requires
unfolding deposit_act
credit-requires c =
    let d = deposit-fine {T = tables c.args.accounts.now c.args.counters.now c.args.pays.now} (sym c.judge_deposit.ensures ∙ c.in_ok-judge_deposit.was) in
    record { bounded = accounts-bounded c.requires.accounts; seat_lt_members = (omega arith, d.small) }

pub returns : goal.returns
unfolding deposit_act deposited_in
returns c =
    let e = c.credit.ensures in
    ap₂ (λ b a. outcome (Ok b) (tables a c.args.counters.now c.args.pays.now)) (back c.credit.result c.credit.type_inv ∙ e.value) e.accounts_after
    ∙ sym (held-fine _ _ (sym c.judge_deposit.ensures ∙ c.in_ok-judge_deposit.was))
