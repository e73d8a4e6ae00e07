-- `night::day::day_line` meets its contract: no loop; each kind of line is a case.
use Rattle.night.proofs.Found.{read-counts}
use Rattle.night.proofs.day.day_line.Goals as goal

pub call-s-requires : goal.call-s-requires
call-s-requires c = let g = read-counts _ c.in-Day.is c.requires.1 in (c.requires.0, g.0, g.1)
