-- `dayfile::next_tab` meets its contract. The first tab in what is left of the line is the next.
use Rattle.std.proofs.Common.{◌≡◌, ◌-◌, length, take, drop, ap, ◌∙◌, arith, rules}
use Rattle.numbers.proofs.Reading.{rest_all}
use Rattle.dayfile.specs.Fields.{up_to}
use Rattle.dayfile.proofs.Fields.{tab_at}
use Rattle.dayfile.proofs.next_tab.Goals as goal

pub returns : goal.returns
returns c =
    let s = c.args.line.now in
    let r = c.unwrap_or.result in
    let e : r ≡ up_to (drop c.args.from s) =
    tab_at (take (length s - c.args.from) (drop c.args.from s)) r (search rules) (search rules) (search rules) ∙ ap up_to (rest_all c.args.from s) in
    (omega arith, omega arith, search rules)
