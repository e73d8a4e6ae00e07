-- `desk::out::tell` meets its contract: no loop.
use mathlib.Core.List.{append-nil}
use Rattle.sheet.specs.declared.Says.{Says}
use Rattle.sheet.specs.Lines.{text_of}
use Rattle.desk.proofs.Writing.{said-ranges, put-behind}
use Rattle.desk.proofs.out.tell.Goals as goal

pub returns-in-Some : goal.returns-in-Some
returns-in-Some c = let l : Says = c.in-Some.s in
    let w = put-behind l c.args.out.now c.args.used c.requires.0 (said-ranges c.args.said l c.in-Some.is c.requires.1)
    c.put_line.result _ c.put_line.ensures.0 c.put_line.ensures.1 in
    rw (c.in-Some.is, append-nil (text_of l)) w
