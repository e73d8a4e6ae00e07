-- `words::rows::encode` meets its contract. The loop's invariant: with the values from i on written, all is as it is to be.
use Rattle.words.proofs.RowTurns.{Writing}
use Rattle.words.proofs.rows.encode.Given as goal

abbrev pub invariant-loop-i : goal.invariant-loop-i
invariant-loop-i g l = Writing g.T.Word.number_of g.T.Word.WIDTH l.xs l.at l.initial.s l.s l.i
