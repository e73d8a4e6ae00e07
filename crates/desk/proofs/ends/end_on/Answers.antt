-- `desk::ends::end_on` meets its contract: no loop.
use mathlib.Core.Path.{refl}
use lib.ListN.{length}
use Rattle.sheet.specs.Room.{Ranges}
use Rattle.tables.specs.Layout.{Tables, tables}
use Rattle.night.proofs.Kept.{end-ranges}
use Rattle.desk.specs.declared.State.{State}
use Rattle.desk.specs.States.{Fit}
use Rattle.desk.proofs.Endings.{telling, end-said, end-fewer, end-stands}
use Rattle.desk.proofs.Writing.{put-behind}
use Rattle.desk.proofs.ends.end_on.Goals as goal

pub put_line-used-requires : goal.put_line-used-requires
put_line-used-requires c = let t : Tables = tables c.args.accounts.now c.args.counters.now c.args.pays.now in
    let h = telling c.args.s t c.args.k c.requires.1 c.requires.0 in
    (c.requires.2, rw c.end_line-l.ensures (end-ranges t h.holds c.args.k))

pub returns : goal.returns
returns c = let l = c.end_line-l in
    let k = c.args.k in
    let q = c.requires.1 in
    let t : Tables = tables c.args.accounts.now c.args.counters.now c.args.pays.now in
    let h = telling c.args.s t k q c.requires.0 in
    let ok : Ranges l.result = rw l.ensures (end-ranges t h.holds k) in
    let p = c.put_line-used in
    let w = put-behind l.result c.args.out.now c.args.s.used c.requires.2 ok p.result _ p.ensures.0 p.ensures.1 in
    let r : State = record { lines = c.args.s.lines; stage = c.end_next.result; used = p.result; cut = c.args.s.cut } in
    let g = c.end_next.ensures in
    let fit : Fit r t (length c.args.out.now) =
    record { few = c.requires.0.few; room = w.1; held = c.requires.0.held; stands = end-stands c.args.s t k q h r g } in
    record {
      out_after = end-said c.args.s t k q c.args.out.now _ r l.result h l.ensures refl g w.0;
      fit = (fit, refl, end-fewer c.args.s t k q h r g, w.2);
    }
