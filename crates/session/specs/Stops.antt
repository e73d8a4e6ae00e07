-- Turns one after the other, while a test says so: where they stop.
use Rattle.std.specs.Prelude.{◌≡◌, Bool, true, false, ℕ, zero, suc, ◌<◌}

-- so many turns, one after the other
unfoldable pub turned : {D : Type 0} → (D → D) → ℕ → D → D
turned turn zero d = d
turned turn (suc k) d = turn (turned turn k d)

-- some turns lead from d to e, and before each of them it goes on
pub record Runs {D : Type 0} (turn : D → D) (goes : D → Bool) (d e : D) : Type 0 where
  pub count : ℕ
  pub place : e ≡ turned turn count d
  pub on : (k : ℕ) → k < count → goes (turned turn k d) ≡ true

-- and there it goes on no more
pub record Stops {D : Type 0} (turn : D → D) (goes : D → Bool) (d e : D) : Type 0 where
  pub run : Runs turn goes d e
  pub halts : goes e ≡ false
