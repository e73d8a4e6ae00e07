use Rattle.words.proofs.Number.{zero-below}
use Rattle.lent.proofs.list.LentList.of.Goals as goal

pub from_number-values-requires : goal.from_number-values-requires
from_number-values-requires g c = zero-below g.T.Word.WIDTH
