-- `sheet::put_fields` meets its contract. The invariant: the numbers so far are written from the place on.
use mathlib.Core.Path.{◌≡◌}
use Prim.Native.Nat.{◌+◌}
use lib.ListN.{length, take}
use lib.Seq.{sets}
use Rattle.sheet.specs.Lines.{tabbed}
use Rattle.sheet.proofs.put_fields.Given as goal

abbrev pub invariant-loop-z : goal.invariant-loop-z
invariant-loop-z l = (l.p ≡ l.at + length (tabbed (take l.z-index l.zs))) × (l.out ≡ sets l.initial.out l.at (tabbed (take l.z-index l.zs)))
