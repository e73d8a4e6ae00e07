-- What two days have in common (demand 3). cs and ds are what they did, in the rule's words.
use Rattle.std.specs.Prelude.{◌≡◌, List, ℕ, ◌<◌}
use Rattle.rule.specs.Day.{Call, deposits, payments}

-- equal totals of accepted deposits for each of n members, and the same accepted payments in the same order for each payer
pub record AlikeDays (n : ℕ) (cs ds : List Call) : Type 0 where
  pub totals : (i : ℕ) → i < n → deposits ds i ≡ deposits cs i
  pub paid : (i : ℕ) → i < n → payments ds i ≡ payments cs i
