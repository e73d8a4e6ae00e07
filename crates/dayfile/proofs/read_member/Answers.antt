-- `dayfile::read_member` meets its contract. The fields follow each other from tab to tab.
use native.Mathlib.Omega.{arith}
use Rattle.dayfile.proofs.Entries.{one_field, two_fields, more-fields, three-fields}
use Rattle.dayfile.proofs.read_member.Goals as goal

pub returns-then-n-a : goal.returns-then-n-a
returns-then-n-a c = let s = c.args in
    let a = c.next_tab-a in
    one_field s.line.now s.from a.result (omega arith) a.ensures.0 (omega arith) (omega arith)

pub returns-then-n-b : goal.returns-then-n-b
returns-then-n-b c = let s = c.args in
    let a = c.next_tab-a in
    let b = c.next_tab-b in
    two_fields s.line.now s.from a.result (omega arith) a.ensures.0 (omega arith)
    b.result (omega arith) b.ensures.0 (omega arith) (omega arith)

pub returns-then-c-n : goal.returns-then-c-n
returns-then-c-n c = let s = c.args in
    let a = c.next_tab-a in
    let b = c.next_tab-b in
    let d = c.next_tab-c in
    more-fields s.line.now s.from a.result (omega arith) a.ensures.0 (omega arith)
    b.result (omega arith) b.ensures.0 (omega arith) d.result (omega arith) d.ensures.0 (omega arith) (omega arith)

pub returns : goal.returns
returns c = let s = c.args in
    let a = c.next_tab-a in
    let b = c.next_tab-b in
    let d = c.next_tab-c in
    three-fields s.line.now s.from a.result (omega arith) a.ensures.0 (omega arith)
    b.result (omega arith) b.ensures.0 (omega arith) d.result (omega arith) d.ensures.0 (omega arith) (omega arith)
    _ _ _ c.read_number-number.ensures c.read_signed-balance.ensures c.read_number-limit.ensures c.member.ensures
