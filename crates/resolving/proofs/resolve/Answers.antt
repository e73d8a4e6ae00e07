-- `resolving::resolve` meets its contract: no loop; the counts of the largest set can be booked with the positions found, and what is booked
-- and told is what is promised.
use borrow.Author.Tests.{eq-eqb, ne_eqb}
use mathlib.Core.Path.{◌≡◌, sym, ap, ◌∙◌, subst}
use Prim.Native.Nat.{◌≤◌}
use lib.ListN.{length, take}
use Rattle.rule.specs.Kernel.{sum}
use Rattle.rule.specs.Verdict.{verdict_of}
use Rattle.tables.specs.Sizes.{members, table}
use Rattle.tables.specs.Layout.{Tables, tables, count_of, waiting_of}
use Rattle.booking.specs.Booking.{listed}
use Rattle.booking.proofs.Reading.{counters-length}
use Rattle.booking.proofs.Kept.{booked-count}
use Rattle.answers.specs.Verdicts.{named}
use Rattle.answers.proofs.Outcomes.{held-fine, held-bad}
use Rattle.resolving.specs.Resolve.{resolve_act}
use Rattle.resolving.proofs.Resolving.{largest-counted, largest-told, settles}
use Rattle.resolving.proofs.resolve.Goals as goal

pub returns-then-counts-counters : goal.returns-then-counts-counters
unfolding resolve_act
returns-then-counts-counters c =
    let lent : Tables = tables c.args.accounts.now c.args.counters.now c.args.pays.now in
    let bad = ne_eqb (length c.args.counts.now) (count_of c.args.counters.now) c.if-counts-counters.true in
    record { pays_after = sym (held-bad (resolve_act c.args.counts.now) lent (rw bad)); told_largest = tt }

pub book-sum-requires-clause-counted : goal.book-sum-requires-clause-counted
book-sum-requires-clause-counted c = largest-counted c.requires c.largest-all.ensures.largest_is

pub still_waiting-requires : goal.still_waiting-requires
still_waiting-requires c = let h = c.requires in
    let z = listed c.largest-all.result in (
      subst (λ (W : Tables). table ≤ length W.counters) (sym c.book-sum.ensures.pays_after) (rw (counters-length h z) h.counters.broad),
      subst (λ (W : Tables). count_of W.counters ≤ members) (sym c.book-sum.ensures.pays_after) (rw (booked-count h z) h.counters.few),
    )

pub returns : goal.returns
unfolding resolve_act
returns c =
    let lent : Tables = tables c.args.accounts.now c.args.counters.now c.args.pays.now in
    let l = c.largest-all.ensures.largest_is in
    let n = c.if-counts-counters.false in
    let t : c.tally-settled.result ≡ sum members (listed c.largest-all.result) = c.tally-settled.ensures ∙ ap (λ k. sum k (listed c.largest-all.result)) l.each in
    let k = c.copy_from_slice.ensures.after ∙ ap (λ m. take m c.largest-all.result) n in
    let v = c.verdict_of.ensures ∙ ap (λ m. named (verdict_of (waiting_of c.args.counters.now) m)) t in record {
      pays_after = settles c.requires l c.args.counts.now _ c.book-sum.ensures.pays_after k v (c.from.ensures ∙ t) c.book-sum.ensures.value c.still_waiting.ensures
          ∙ sym (held-fine (resolve_act c.args.counts.now) lent (rw (eq-eqb (length c.args.counts.now) (count_of c.args.counters.now) n)));
      told_largest = largest-told c.requires l k;
    }
