-- `desk::chunks::eat_on` meets its contract: a line that stands in the chunk as a whole is read there.
use Rattle.std.proofs.Common.{rules, ◌≡◌, ap, ◌∙◌, ◌+◌, ◌-◌, take, drop, arith, false, true}
use lib.ListN.{length-drop}
use lib.Seq.{length-take-le, take_all, drop-drop}
use Rattle.dayfile.specs.Chunks.{Held, WholeAt, eat_of, state_of}
use Rattle.desk.proofs.chunks.eat_on.Goals as goal

pub returns-clause-turn : goal.returns-clause-turn
returns-clause-turn c =
    let a = c.args in
    let e = c.in-Some.e in
    let inside = c.in-Some.ensures.0 in
    let there : WholeAt a.chunk.now a.from a.s.cut e = c.in-Some.ensures.1 in
    let found : eat_of (drop a.from a.chunk.now) (state_of a.buf.now a.s.cut)
    ≡ record { done = true; used = e - a.from + 1; held = record { bytes = take (e - a.from) (drop a.from a.chunk.now); over = false } }
    = ap (λ (h : Held). eat_of (drop a.from a.chunk.now) h) (there.none_held a.buf.now) ∙ there.eaten in
    let at : a.from + (e - a.from + 1) ≡ e + 1 = omega (arith, there.start) in
    let bytes = take_all (e - a.from) (take (e - a.from) (drop a.from a.chunk.now)) (omega (arith, length-take-le (e - a.from) (drop a.from a.chunk.now), length-drop a.from a.chunk.now)) in
    rw (found, drop-drop, at) (search (rules, bytes))
