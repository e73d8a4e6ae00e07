use lib.ListN.{take, drop}
use Prim.Native.Nat.{◌-◌}
use mathlib.Core.List.{[]}
use mathlib.Core.Path.{◌≡◌, sym, ap, ◌∙◌}
use native.Mathlib.Nat.{add-zero}
use native.Mathlib.Omega.{arith}
use Rattle.numbers.specs.Numbers.{number_of}
use Rattle.dayfile.proofs.Numbers.{turn-stop, turn_on, step-full, step_field, step_end}
use Rattle.dayfile.specs.Entries.{most_counts, numbers_of, good, short}
use Rattle.dayfile.specs.Fields.{fields_from}
use Rattle.std.specs.Prelude.{Some, None}
use Rattle.dayfile.proofs.read_numbers.Goals as goal

pub returns-then-n-ge-MOST_COUNTS : goal.returns-then-n-ge-MOST_COUNTS
returns-then-n-ge-MOST_COUNTS c = let l = c.loop-at in
    let a = c.args in
    let w = numbers_of most_counts (fields_from a.from a.line.now) in let both = turn-stop a.line.now w a.counts.now l.counts l.at l.n l.invariant (short [])
    (step-full a.line.now l.at l.n (omega arith) (omega arith)) in record { few = tt; value = both.0; counts_after = both.1 }

pub returns-in_err-counts : goal.returns-in_err-counts
returns-in_err-counts c = let l = c.loop-at in
    let e = c.next_tab-e in
    let a = c.args in
    let w = numbers_of most_counts (fields_from a.from a.line.now) in
    let m : None ≡ number_of (take (e.result - l.at) (drop l.at a.line.now)) = sym c.in_err-counts.was ∙ c.read_number.ensures in let both = turn-stop a.line.now w a.counts.now l.counts l.at l.n l.invariant (short [])
    (step_field a.line.now l.at e.result l.n None (omega arith) e.ensures.0 (omega arith) (omega arith) m) in record { few = rw c.from_residual.ensures tt; value = c.from_residual.ensures ∙ both.0; counts_after = both.1 }

pub loop-at-preserved : goal.loop-at-preserved
loop-at-preserved c = let l = c.loop-at in
    let e = c.next_tab-e in
    let x = c.in_ok-counts.field-0 in
    let a = c.args in
    let w = numbers_of most_counts (fields_from a.from a.line.now) in
    let m : Some x ≡ number_of (take (e.result - l.at) (drop l.at a.line.now)) =
    sym c.in_ok-counts.was ∙ c.read_number.ensures in
    turn_on a.line.now w a.counts.now l.counts l.at l.n l.invariant e.result x (omega arith)
    (step_field a.line.now l.at e.result l.n (Some x) (omega arith) e.ensures.0 (omega arith) (omega arith) m)

pub returns : goal.returns
returns c = let l = c.loop-at in
    let a = c.args in
    let w = numbers_of most_counts (fields_from a.from a.line.now) in
    let r = turn-stop a.line.now w a.counts.now l.counts l.at l.n l.invariant (good []) (step_end a.line.now l.at l.n (omega arith)) in
    record { few = omega arith; value = ap Some (sym (add-zero l.n)) ∙ r.0; counts_after = r.1 }
