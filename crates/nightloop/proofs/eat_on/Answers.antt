-- `nightloop::eat_on` meets its contract: what `feed` leaves is what the session comes to, once it is written out.
use Rattle.nightloop.proofs.Steps.{fed-ate}
use native.Mathlib.Omega.{arith}
use Rattle.nightloop.proofs.eat_on.Goals as goal

pub returns : goal.returns
returns c = let k = c.feed-t in
    fed-ate _ _ _ _ c.requires (omega arith) (omega (arith, k.auto)) k.result k.ensures.stops k.ensures.fits.0 k.ensures.fits.1 c.fed_next.ensures c.write_out.ensures
