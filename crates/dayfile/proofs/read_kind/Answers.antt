-- `dayfile::read_kind` meets its contract. The word gives the kind, and the numbers stand in the lent list.
use Rattle.std.proofs.Common.{◌+◌, take}
use Rattle.dayfile.specs.Fields.{fields_from}
use Rattle.dayfile.specs.Entries.{kind_of}
use Rattle.dayfile.proofs.Entries.{count-good}
use Rattle.dayfile.proofs.read_kind.Goals as goal

pub returns-in-Some-clause-tells : goal.returns-in-Some-clause-tells
returns-in-Some-clause-tells c =
    let n = c.read_numbers in
    let a = c.args in
    count-good (fields_from (a.e + 1) a.line.now) n.result c.in-Some.m a.counts.now n.new.counts n.ensures.value c.in-Some.is c.told-counts
    n.ensures.counts_after c.kind_of.result (kind_of (take a.e a.line.now)) c.kind_of.ensures c.shape.ensures
