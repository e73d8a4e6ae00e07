use Rattle.words.proofs.Number.{zero-below}
use Rattle.words.proofs.rows.array.Goals as goal

pub from_number-out-requires : goal.from_number-out-requires
from_number-out-requires g c = zero-below g.T.Word.WIDTH
