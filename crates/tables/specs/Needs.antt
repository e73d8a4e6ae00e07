-- What the functions that act on tables ask of them.
use Rattle.std.specs.Prelude.{List, ℕ, ◌≤◌, ◌<◌, ℤ, length}
use Rattle.rule.specs.Ints.{up, down}
use Rattle.tables.specs.Sizes.{highest, members}
use Rattle.tables.specs.Layout.{balance_of}

-- z is at most m from zero
pub record Near (m : ℕ) (z : ℤ) : Type 0 where
  pub above : up z ≤ m
  pub below : down z ≤ m

-- of the first n balances, at most 64, none is further from zero than the highest, so that none of their sums can wrap
pub record Bounded (n : ℕ) (a : List ℤ) : Type 0 where
  pub few : n ≤ members
  pub long : n ≤ length a
  pub near : (i : ℕ) → i < n → Near highest (balance_of a i)
