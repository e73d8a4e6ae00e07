-- `finder::resolve` meets its contract: with every waiting payment entered, in and linked, the search can start.
use Rattle.finder.proofs.Start.{ready-start, resolved, sits-waiting, found-waiting}
use Rattle.finder.proofs.resolve.Goals as goal

pub find-requires : goal.find-requires
find-requires c = ready-start (sits-waiting c.requires) c.enter_all.ensures c.link_all.ensures.all_in

pub returns : goal.returns
returns c = found-waiting c.requires (resolved (sits-waiting c.requires) c.enter_all.ensures c.link_all.ensures.all_in c.find.ensures)
