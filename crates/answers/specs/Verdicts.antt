-- The paper's number of each verdict (document 01, "Verdict").
use Rattle.std.specs.Prelude.{cond, ℕ, eqb}
use Rattle.rule.specs.Verdict.{empty, full, partial, deadlocked}
use Rattle.answers.specs.declared.Verdict.{Verdict}
use Rattle.answers.specs.declared.Verdict.TheVariants.{Empty, Full, Partial, Deadlocked}

abbrev pub verdict_number : Verdict → ℕ
verdict_number Empty = empty
verdict_number Full = full
verdict_number Partial = partial
verdict_number Deadlocked = deadlocked

-- the verdict of a number
abbrev pub named : ℕ → Verdict
named n = cond (eqb n empty) Empty (cond (eqb n full) Full (cond (eqb n partial) Partial Deadlocked))
