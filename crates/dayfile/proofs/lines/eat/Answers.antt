use Rattle.std.proofs.Common.{◌+◌, ◌-◌, true, false, length, take, drop, refl, sym, ap, ◌∙◌, arith}
use Rattle.numbers.proofs.Reading.{rest_all}
use Rattle.dayfile.specs.Chunks.{Held, more, eat_of, state_of}
use Rattle.dayfile.proofs.Eating.{going_on, eat-here, eat-on, eat-none, ready_at}
use Rattle.dayfile.proofs.lines.eat.Goals as goal

pub returns-then-b-eq10-clause-ate_so : goal.returns-then-b-eq10-clause-ate_so
returns-then-b-eq10-clause-ate_so c =
    let l = c.loop-k in
    let a = c.args in
    let s = take (length a.chunk.now - a.from) (drop a.from a.chunk.now) in
    rw (← rest_all a.from a.chunk.now)
    (ready_at (record { is_done = true; at = a.from + l.k + 1; cut = l.t }) (eat_of s (state_of a.buf.now a.c)) (eat_of (drop l.k s) (state_of l.buf l.t))
    l.buf a.from l.k 1 l.invariant.1 (eat-here s l.k (state_of l.buf l.t) (omega arith) c.if-b-eq10.true) refl)

pub loop-k-preserved : goal.loop-k-preserved
loop-k-preserved c =
    let l = c.loop-k in
    let a = c.args in
    let p = c.push-t in
    let s = take (length a.chunk.now - a.from) (drop a.from a.chunk.now) in
    let q = eat-on s l.k (state_of l.buf l.t) (omega arith) c.if-b-eq10.false in
    let r = ap (λ (h : Held). more (eat_of (drop (l.k + 1) s) h)) (sym p.ensures.0) in (
      p.ensures.1,
      going_on (eat_of s (state_of a.buf.now a.c)) (eat_of (drop l.k s) (state_of l.buf l.t)) (eat_of (drop (l.k + 1) s) (state_of p.new.buf p.result))
          l.k l.invariant.1 (q ∙ r),
    )

pub returns-clause-ate_so : goal.returns-clause-ate_so
returns-clause-ate_so c =
    let l = c.loop-k in
    let a = c.args in
    let s = take (length a.chunk.now - a.from) (drop a.from a.chunk.now) in
    rw (← rest_all a.from a.chunk.now)
    (ready_at (record { is_done = false; at = length a.chunk.now; cut = l.t }) (eat_of s (state_of a.buf.now a.c)) (eat_of (drop l.k s) (state_of l.buf l.t))
    l.buf a.from l.k 0 l.invariant.1 (eat-none s l.k (state_of l.buf l.t) (omega arith)) (omega arith))
