use Rattle.std.proofs.Common.{ap, ◌∙◌}
use Rattle.words.proofs.Number.{below}
use Rattle.words.proofs.StdBytes.{read-bytes}
use Rattle.words.proofs.read.Goals as goal

pub from_number-requires : goal.from_number-requires
from_number-requires g c =
    let is = c.from_le_bytes.ensures ∙ read-bytes c.args.s.now c.args.at c.WIDTH.ensures c.WIDTH-2.ensures g.met.T.Word.widths.1 c.requires c.copy_from_slice.ensures.after in
    rw is (below g.T.Word.WIDTH c.args.s.now c.args.at (λ k. (c.type_inv.s k).fits))

pub returns : goal.returns
returns g c =
    let is = c.from_le_bytes.ensures ∙ read-bytes c.args.s.now c.args.at c.WIDTH.ensures c.WIDTH-2.ensures g.met.T.Word.widths.1 c.requires c.copy_from_slice.ensures.after in
    c.from_number.ensures ∙ ap g.T.Word.value_of is
