use mathlib.Core.Path.{refl}
use native.Mathlib.Omega.{arith}
use lib.ListN.{get_or-replicate}
use Rattle.std.proofs.Common.{ℕ}
use Rattle.std.proofs.lemmas.Grind.{common_steps}
use Rattle.tables.specs.Sizes.{members}
use Rattle.tables.proofs.Counting.{queue-count}
use Rattle.tables.proofs.look.count_waiting.Goals as goal

pub loop-w-init : goal.loop-w-init
loop-w-init c = (refl, λ k h. get_or-replicate {A = ℕ} members k 0 0 h)

pub returns : goal.returns
returns c = λ k h. grind (arith, common_steps, queue-count, c.loop-w.invariant.1 k h)
