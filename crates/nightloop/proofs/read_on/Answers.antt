-- `nightloop::read_on` meets its contract: what the read answered is the number of bytes that came, or none.
use Rattle.std.specs.Result.{result_ok}
use Rattle.nightloop.proofs.Steps.{read-within}
use Rattle.nightloop.proofs.read_on.Goals as goal

pub returns : goal.returns
returns c = let got = c.read-got in
    record { got = result_ok got.result; within = read-within got.result got.new.chunk got.ensures; is = c.taken.ensures }
