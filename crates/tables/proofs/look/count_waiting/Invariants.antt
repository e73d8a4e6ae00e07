-- `tables::look::count_waiting` meets its contract. The loop's invariant: each member's payments so far are counted.
use Rattle.std.proofs.Common.{◌≡◌, ℕ, ◌<◌, ◌==◌, length, get_or, take, count_by}
use Rattle.rule.specs.Payment.{payer_of}
use Rattle.tables.specs.Sizes.{members}
use Rattle.tables.proofs.look.count_waiting.Given as goal

abbrev pub invariant-loop-w : goal.invariant-loop-w
invariant-loop-w l = (length l.waits ≡ members) × ((k : ℕ) → k < members → get_or l.waits k 0 ≡ count_by (λ w. payer_of w == k) (take l.w-index l.pays))
