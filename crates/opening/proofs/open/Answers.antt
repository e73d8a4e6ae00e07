-- `opening::open` meets its contract: a judgement that found nothing gives what the sum asks.
use mathlib.Core.Path.{ap₂, sym, ◌∙◌}
use native.Mathlib.Omega.{arith}
use Rattle.std.proofs.lemmas.Result.{err_from_is_err_and}
use Rattle.rule.proofs.Ints.{back}
use Rattle.tables.specs.Layout.{Tables, tables}
use Rattle.tables.proofs.Same.{tables-same}
use Rattle.answers.specs.Outcome.{outcome}
use Rattle.std.specs.Prelude.{Ok}
use Rattle.tables.proofs.Balances.{near-holder}
use Rattle.answers.proofs.Outcomes.{held-fine, held-bad}
use Rattle.opening.specs.Open.{entry, opened_in, open_act}
use Rattle.opening.proofs.Judging.{Opens, open-fine}
use Rattle.opening.proofs.open.Goals as goal

pub returns-in_err-judge : goal.returns-in_err-judge
unfolding open_act
returns-in_err-judge c =
    let p = err_from_is_err_and c.from_residual.result c.from_residual.ensures.1 in
    rw (p.1, p.2) (sym (held-bad _ _ (sym c.judge.ensures ∙ c.in_err-judge.was)))

pub total-requires : goal.total-requires
unfolding open_act
total-requires c =
    let o : Opens (tables c.args.accounts.now c.args.counters.now c.args.pays.now) c.args.count c.args.balances.now c.args.lines.now =
    open-fine (sym c.judge.ensures ∙ c.in_ok-judge.was) in
    let h = o.opening in
    record { few = omega arith; long = omega arith; near = λ i k. near-holder _ (entry c.args.lines.now i) (h.holders i k) }

pub returns : goal.returns
unfolding open_act opened_in
returns c =
    let o : Opens (tables c.args.accounts.now c.args.counters.now c.args.pays.now) c.args.count c.args.balances.now c.args.lines.now =
    open-fine (sym c.judge.ensures ∙ c.in_ok-judge.was) in
    let w = tables-same (rw o.opening.balances at c.fill_accounts.ensures) c.fill_counters.ensures c.fill_pays.ensures in
    ap₂ (λ b (W : Tables). outcome (Ok b) W) (back c.total.result c.total.type_inv ∙ c.total.ensures) w
    ∙ sym (held-fine _ _ (sym c.judge.ensures ∙ c.in_ok-judge.was))
