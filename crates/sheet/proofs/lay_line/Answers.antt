-- `sheet::lay_line` meets its contract. Each kind of line is a case, and has room.
use Rattle.std.proofs.Common.{rules, Some, None, [], ◌∷◌, to_z, of_z, w64}
use Rattle.sheet.specs.Lines.{balance_word, money_word}
use Rattle.sheet.proofs.Ranges.{fits}
use Rattle.sheet.proofs.lay_line.Goals as goal

pub put_text-requires : goal.put_text-requires
put_text-requires c = fits c.args.s c.args.out.now (Some c.in-Open.line) _ _ c.requires (search rules)

pub put_text-requires-in-Queued : goal.put_text-requires-in-Queued
put_text-requires-in-Queued c = fits c.args.s c.args.out.now (Some c.in-Queued.line) _ _ c.requires (search rules)

pub put_text-requires-in-Deposited : goal.put_text-requires-in-Deposited
put_text-requires-in-Deposited c = fits c.args.s c.args.out.now (Some c.in-Deposited.line) _ _ c.requires (search rules)

pub put_text-requires-in-Released : goal.put_text-requires-in-Released
put_text-requires-in-Released c = fits c.args.s c.args.out.now (Some c.in-Released.line) _ _ c.requires (search rules)

pub put_text-requires-in-Group : goal.put_text-requires-in-Group
put_text-requires-in-Group c = fits c.args.s c.args.out.now (Some c.in-Group.line) _ _ c.requires (search rules)

pub put_text-requires-in-Resolve : goal.put_text-requires-in-Resolve
put_text-requires-in-Resolve c = fits c.args.s c.args.out.now (Some c.in-Resolve.line) _ _ c.requires (search rules)

pub put_text-requires-in-Refused : goal.put_text-requires-in-Refused
put_text-requires-in-Refused c = fits c.args.s c.args.out.now (Some c.in-Refused.line) _ _ c.requires (search rules)

pub put_text-requires-in-Balance : goal.put_text-requires-in-Balance
put_text-requires-in-Balance c = let b = c.in-Balance in
    fits c.args.s c.args.out.now None balance_word (to_z w64 b.member ∷ to_z w64 (of_z w64 b.balance) ∷ to_z w64 b.waiting ∷ []) c.requires (search rules)

pub put_text-requires-in-Money : goal.put_text-requires-in-Money
put_text-requires-in-Money c = fits c.args.s c.args.out.now None money_word (to_z w64 (of_z w64 c.in-Money.sum) ∷ []) c.requires (search rules)
