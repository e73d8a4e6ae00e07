-- `entry::submit::submit` meets its contract: a judgement that found nothing gives what the steps ask.
use mathlib.Core.Path.{sym, ◌∙◌}
use native.Mathlib.Omega.{arith}
use Rattle.std.proofs.lemmas.Result.{err_from_is_err_and}
use Rattle.tables.specs.Layout.{tables}
use Rattle.answers.proofs.Outcomes.{held-fine, held-bad}
use Rattle.entry.specs.Submit.{submitted_in, submit_act}
use Rattle.entry.proofs.Judging.{Submits, submit-fine}
use Rattle.entry.proofs.submit.submit.Goals as goal

pub returns-in_err-judge_submit : goal.returns-in_err-judge_submit
unfolding submit_act
returns-in_err-judge_submit c =
    let p = err_from_is_err_and c.from_residual.result c.from_residual.ensures.1 in
    rw (p.1, p.2) (sym (held-bad _ _ (sym c.judge_submit.ensures ∙ c.in_err-judge_submit.was)))

pub payment-requires : goal.payment-requires
unfolding submit_act
payment-requires c =
    let s : Submits (tables c.args.accounts.now c.args.counters.now c.args.pays.now) c.args.payer c.args.number c.args.payee c.args.amount =
    submit-fine (sym c.judge_submit.ensures ∙ c.in_ok-judge_submit.was) in
    grind arith

pub bounds-pays-at : goal.bounds-pays-at
unfolding submit_act
bounds-pays-at c =
    let s : Submits (tables c.args.accounts.now c.args.counters.now c.args.pays.now) c.args.payer c.args.number c.args.payee c.args.amount =
    submit-fine (sym c.judge_submit.ensures ∙ c.in_ok-judge_submit.was) in
    omega arith

pub accept-requires : goal.accept-requires
unfolding submit_act
accept-requires c =
    let s : Submits (tables c.args.accounts.now c.args.counters.now c.args.pays.now) c.args.payer c.args.number c.args.payee c.args.amount =
    submit-fine (sym c.judge_submit.ensures ∙ c.in_ok-judge_submit.was) in
    grind arith

pub returns : goal.returns
unfolding submit_act submitted_in
returns c = rw (c.accept.ensures, c.payment.ensures) (sym (held-fine _ _ (sym c.judge_submit.ensures ∙ c.in_ok-judge_submit.was)))
