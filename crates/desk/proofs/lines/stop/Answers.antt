-- `desk::lines::stop` meets its contract: no loop.
use mathlib.Core.Path.{refl}
use native.Mathlib.Omega.{arith}
use Rattle.answers.specs.declared.Refusal.TheVariants.{Line}
use Rattle.sheet.specs.declared.Says.{Says}
use Rattle.sheet.specs.Room.{Ranges}
use Rattle.daylines.specs.Calls.{refusal}
use Rattle.desk.proofs.Writing.{put-behind}
use Rattle.desk.proofs.lines.stop.Goals as goal

pub returns : goal.returns
returns c = let l : Says = refusal c.args.n Line in
    let ok : Ranges l = (omega arith, omega arith) in
    let p = rw c.refused.ensures at c.put_line-used.ensures in
    let w = put-behind l c.args.out.now c.args.s.used c.requires.1 ok c.put_line-used.result _ p.0 p.1 in
    rw c.between.ensures (refl, w.0, w.1, w.2)
