-- `booking::tally` meets its contract: the sum of the list is that of the counts which it gives.
use mathlib.Core.Path.{◌≡◌, refl, sym, ap, ◌∙◌}
use mathlib.Core.List.{List}
use Prim.Native.Nat.{ℕ, zero, suc, ◌+◌, ◌≤◌}
use native.Mathlib.Numerals.{add-one}
use native.Mathlib.Omega.{arith}
use lib.ListN.{length, get_or, take}
use lib.Seq.{take-length}
use Rattle.std.proofs.Common.{rules}
use Rattle.std.specs.List.{sum as list_sum}
use Rattle.std.proofs.lemmas.List.Sums.{sum_by_more}
use Rattle.rule.specs.Kernel.{sum}
use Rattle.booking.specs.Booking.{listed}
use Rattle.booking.proofs.tally.Goals as goal

counted : (l : List ℕ) (n : ℕ) → n ≤ length l → list_sum (take n l) ≡ sum n (listed l)
counted l zero h = refl
counted l (suc n) h = rw add-one at (sum_by_more (λ x. x) l n 0 (omega arith)) ∙ ap (λ k. k + get_or l n 0) (counted l n (omega arith))

pub returns : goal.returns
returns c = let l = c.args.counts.now in
    let e : c.sum.result ≡ list_sum l = search rules in
    e ∙ ap list_sum (sym (take-length l)) ∙ counted l (length l) (omega arith)
