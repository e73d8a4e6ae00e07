-- `sheet::put_bytes` meets its contract.
use native.Mathlib.Omega.{arith}
use mathlib.Core.Path.{refl}
use Rattle.sheet.proofs.Texts.{copied}
use Rattle.sheet.proofs.put_bytes.Goals as goal

pub returns : goal.returns
returns c = (refl, copied _ _ _ _ _ c.copy_from_slice.ensures.after (omega arith) c.requires)
