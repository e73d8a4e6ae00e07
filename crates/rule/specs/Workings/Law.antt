-- What conditions must obey so that a largest set exists, and what a search for it keeps. Letters as in Kernel; C are conditions.
use Rattle.std.specs.Prelude.{◌≡◌, ℕ, ◌<◌}
use Rattle.rule.specs.Kernel.{Counts, Conditions, Under, Allowed}

-- the one law that all else rests on: a condition that holds still holds when only other members' counts grow
pub record Lawful (n : ℕ) (C : Conditions) : Type 0 where
  pub stays : (i : ℕ) (z y : Counts) → i < n → Under n z y → z i ≡ y i → C i z → C i y

-- what a search from everything down keeps: y takes no more than waits, and every allowed set still lies inside it
pub record Around (n : ℕ) (C : Conditions) (waits y : Counts) : Type 0 where
  pub within : Under n y waits
  pub above : (z : Counts) → Allowed n C waits z → Under n z y
