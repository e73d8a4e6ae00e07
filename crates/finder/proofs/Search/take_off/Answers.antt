-- `finder::Search::take_off` meets its contract: the member has a payment in, just below its top, and the payee of any word is among the
-- members.
use Rattle.std.proofs.Common.{◌∙◌, ap, arith}
use Rattle.std.proofs.Math.ListN.{set}
use Rattle.finder.proofs.Tops.{payee-under, last-behind}
use Rattle.finder.proofs.Search.take_off.Goals as goal

pub transfer-requires-clause-giver_lt_members : goal.transfer-requires-clause-giver_lt_members
transfer-requires-clause-giver_lt_members c = (omega (arith, payee-under), omega (arith, payee-under), omega (arith, c.requires.small))

pub returns : goal.returns
returns c =
    let p = c.requires in
    let last = last-behind p.some p.places p.behind in
    let k = p.linked in
    record {
      place = _;
      top = _;
      last = last;
      paid = c.payee_of-payee.ensures;
      low = k.back _ last.under;
      behind = rw last.payer at (k.behind _ last.under);
      same = rw last.payer at (k.same _ last.under);
      positions = c.transfer.ensures ∙ rw (c.payee_of-payee.ensures, c.amount_of-amount.ensures);
      tops = ap (set c.args.tops.now c.args.member) c.from-before.ensures;
    }
