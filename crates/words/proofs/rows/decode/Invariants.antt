-- `words::rows::decode` meets its contract. The loop's invariant: the first i values are filled in.
use Rattle.words.proofs.RowTurns.{Filling}
use Rattle.words.proofs.rows.decode.Given as goal

abbrev pub invariant-loop-i : goal.invariant-loop-i
invariant-loop-i g l = Filling g.T.Word.value_of g.T.Word.WIDTH l.s l.at l.initial.out l.out l.i
