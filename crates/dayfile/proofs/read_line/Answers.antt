-- `dayfile::read_line` meets its contract. The first word decides how the other fields are read.
use Rattle.std.proofs.Common.{◌≡◌, take}
use Rattle.dayfile.specs.Fields.{same}
use Rattle.dayfile.specs.Entries.{member_word}
use Rattle.dayfile.proofs.Entries.{line-member, line-kind}
use Rattle.dayfile.proofs.read_line.Goals as goal

pub returns-then-eq : goal.returns-then-eq
returns-then-eq c =
    let a = c.args in
    let t = c.next_tab-e in
    let q : c.eq.result ≡ same (take t.result a.line.now) member_word = cc in
    let both = line-member a.line.now t.result t.ensures.0 t.ensures.2 c.eq.result q c.if-eq.true a.counts.now c.read_member.ensures in
    record { tells = both.0; counts_after = both.1 }

pub returns : goal.returns
returns c =
    let a = c.args in
    let t = c.next_tab-e in
    let k = c.read_kind in
    let q : c.eq.result ≡ same (take t.result a.line.now) member_word = cc in
    let both = line-kind a.line.now t.result t.ensures.0 t.ensures.2 c.eq.result q c.if-eq.false a.counts.now k.new.counts
    k.ensures.tells k.ensures.counts_after in
    record { tells = both.0; counts_after = both.1 }
