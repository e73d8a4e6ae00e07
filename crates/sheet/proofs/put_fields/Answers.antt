use native.Mathlib.Omega.{arith}
use mathlib.Core.Path.{refl}
use mathlib.Core.List.{[], ◌∷◌, ◌++◌}
use lib.IntN.{pos}
use lib.ListN.{get_or, take}
use Rattle.numbers.specs.Numbers.{signed_text}
use Rattle.sheet.specs.Lines.{tabbed}
use Rattle.sheet.proofs.Texts.{behind}
use Rattle.sheet.proofs.Fields.{tabbed-more, more-within, short-at, handed-at}
use Rattle.sheet.proofs.put_fields.Goals as goal

pub loop-z-init : goal.loop-z-init
unfolding tabbed
loop-z-init c = (omega arith, refl)

pub put_bytes-q-requires : goal.put_bytes-q-requires
put_bytes-q-requires c = omega (arith, more-within c.args.zs.now c.loop-z.z-index (omega arith), c.loop-z.invariant.0, c.requires.0)

pub put_signed-p-requires : goal.put_signed-p-requires
put_signed-p-requires c =
    let w = more-within c.args.zs.now c.loop-z.z-index (omega arith) in
    rw (handed-at c.args.zs.now c.loop-z.z-index c.requires.1)
    (omega (arith, w, c.loop-z.invariant.0, c.requires.0, c.put_bytes-q.ensures.0), short-at c.args.zs.now c.loop-z.z-index c.requires.1)

pub loop-z-preserved : goal.loop-z-preserved
loop-z-preserved c = let l = c.loop-z in
    let zs = c.args.zs.now in
    let t = tabbed (take l.z-index zs) in
    let b = behind c.args.out.now t (9 ∷ []) c.args.at l.invariant c.put_bytes-q.ensures in
    let d = rw (handed-at zs l.z-index c.requires.1) at c.put_signed-p.ensures in
    rw (tabbed-more zs l.z-index (omega arith)) (behind c.args.out.now (t ++ 9 ∷ []) (signed_text (get_or zs l.z-index (pos 0))) c.args.at b d)
