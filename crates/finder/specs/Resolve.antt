-- A resolution, from everything down: what it asks, and what it promises (document 01, "Resolve"; demand 2).
-- There are n members and i is one, and `used` payments wait.
use Rattle.std.specs.Prelude.{◌≡◌, List, ℕ, ◌≤◌, ◌<◌, ℤ, pos, ◌≤ℤ◌, length, get_or, take}
use Rattle.rule.specs.Ints.{up}
use Rattle.rule.specs.House.{House, position, Sound, LargestSet}
use Rattle.rule.specs.Table.{queue_of, Payers}
use Rattle.tables.specs.Sizes.{members}
use Rattle.finder.specs.Tops.{counts_of, Topped}
use Rattle.finder.specs.Positions.{Entering}

-- the house that the lists hold
abbrev pub house_from : ℕ → List ℕ → List ℤ → List ℤ → House
house_from used pays balances lines = record {
  line = λ i. up (get_or lines i (pos 0));
  balance = λ i. get_or balances i (pos 0);
  queue = λ i. queue_of i (take used pays);
}

-- the lists hold a sound house of n members, whose payments can be entered
pub record Sits (n used : ℕ) (pays : List ℕ) (balances lines : List ℤ) (tops : List ℕ) : Type 0 where
  pub few : n ≤ members
  pub entering : Entering used pays balances
  pub each_line : length lines ≡ members
  pub each_top : length tops ≡ members
  pub nonneg : (i : ℕ) → i < n → pos 0 ≤ℤ get_or lines i (pos 0)
  pub payers : Payers n (take used pays)
  pub sound : Sound n (house_from used pays balances lines)

-- the payments below the tops are the largest set, and the positions are the balances once it is booked
pub record LargestFound (n used : ℕ) (pays : List ℕ) (balances lines positions : List ℤ) (tops : List ℕ) : Type 0 where
  pub topped : Topped used pays tops
  pub largest : LargestSet n (house_from used pays balances lines) (counts_of pays tops)
  pub each : length positions ≡ members
  pub booked : (i : ℕ) → i < members → get_or positions i (pos 0) ≡ position n (house_from used pays balances lines) (counts_of pays tops) i
