-- `night::answer` meets its contract: no loop; each stage is a case.
use mathlib.Core.Path.{◌∙◌}
use Rattle.tables.specs.Layout.{Tables, tables}
use Rattle.night.proofs.Found.{house-any}
use Rattle.night.proofs.answer.Goals as goal

pub returns-in-House : goal.returns-in-House
returns-in-House c = let s = c.args in
    let t : Tables = tables s.accounts.now s.counters.now s.pays.now in
    rw c.in-House.is (c.house_line.ensures t ∙ house-any s.n t s.e s.counts.now)
