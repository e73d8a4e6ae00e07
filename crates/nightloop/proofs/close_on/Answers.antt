-- `nightloop::close_on` meets its contract: what `close` leaves is what the session comes to, once it is written out.
use Rattle.nightloop.proofs.Steps.{fed-closed}
use Rattle.nightloop.proofs.close_on.Goals as goal

pub returns : goal.returns
returns c = let k = c.close-state in
    fed-closed _ _ _ _ c.requires k.result k.ensures.stops k.ensures.fit.0 c.closed_next.ensures c.write_out.ensures
