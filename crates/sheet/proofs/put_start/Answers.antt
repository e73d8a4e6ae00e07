-- `sheet::put_start` meets its contract. The tab stands behind the number.
use native.Mathlib.Omega.{arith}
use mathlib.Core.List.{[], ◌∷◌}
use Rattle.numbers.specs.Numbers.{digits_of}
use Rattle.sheet.proofs.Texts.{behind}
use Rattle.sheet.proofs.put_start.Goals as goal

pub returns-in-Some : goal.returns-in-Some
returns-in-Some c = let b = behind c.args.out.now (digits_of c.in-Some.line) (9 ∷ []) 0 c.put_number-a.ensures c.put_bytes.ensures in
    rw c.in-Some.is (omega (arith, b.0), b.1)
