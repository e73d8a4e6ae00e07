-- `sheet::put_text` meets its contract. The parts stand one behind the other.
use native.Mathlib.Omega.{arith}
use mathlib.Core.List.{[], ◌∷◌, ◌++◌}
use Rattle.sheet.specs.Lines.{start_of, tabbed}
use Rattle.sheet.proofs.Texts.{behind}
use Rattle.sheet.proofs.put_text.Goals as goal

pub returns-clause-out_after : goal.returns-clause-out_after
returns-clause-out_after c = let l = c.args.out.now in
    let s = start_of c.args.line in
    let w = c.args.word.now in
    let a = c.put_start-a.ensures in
    let b = behind l s w 0 (omega (arith, a.0), a.1) c.put_bytes-b.ensures in
    let d = behind l (s ++ w) (tabbed c.args.zs.now) 0 b c.put_fields-c.ensures in
    (behind l (s ++ w ++ tabbed c.args.zs.now) (10 ∷ []) 0 d c.put_bytes.ensures).1
