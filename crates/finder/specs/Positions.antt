-- The positions of all members as a list, one for each place of a member in the tables, and how payments move them. xs are positions, i is
-- a member, `used` of the payments are meant, m of them are entered.
use Rattle.std.specs.Prelude.{◌≡◌, List, ℕ, ◌+◌, ◌*◌, ◌≤◌, ◌<◌, ℤ, pos, ◌+ℤ◌, ◌-ℤ◌, length, get_or, set, take}
use Rattle.rule.specs.Payment.{amount_of, amount_to}
use Rattle.rule.specs.Queue.{total}
use Rattle.rule.specs.Table.{queue_of}
use Rattle.tables.specs.Sizes.{members, places}
use Rattle.finder.specs.Limits.{far, far_amount, far_balance, far_position}

-- one member's position changes by z
abbrev pub added : List ℤ → ℕ → ℤ → List ℤ
added xs i z = set xs i (get_or xs i (pos 0) +ℤ z)

-- an amount goes from the giver to the taker
abbrev pub moved : List ℤ → ℕ → ℕ → ℕ → List ℤ
moved xs giver taker amount = added (added xs giver (pos 0 -ℤ pos amount)) taker (pos amount)

-- no amount is too large
abbrev pub Small : ℕ → List ℕ → Type 0
Small used pays = (k : ℕ) → k < used → amount_of (get_or pays k 0) ≤ far_amount

-- each member has a position, and no position is too far from zero for one more payment
pub record Steady (xs : List ℤ) : Type 0 where
  pub each : length xs ≡ members
  pub near : (i : ℕ) → i < members → far (get_or xs i (pos 0)) ≤ far_position

-- the payments at the first `used` places can be entered into positions that hold the balances
pub record Entering (used : ℕ) (pays : List ℕ) (balances : List ℤ) : Type 0 where
  pub few : used ≤ places
  pub places : used ≤ length pays
  pub each : length balances ≡ members
  pub small : Small used pays
  pub near : (i : ℕ) → i < members → far (get_or balances i (pos 0)) ≤ far_balance

-- the first m of them are entered: each position is the balance, less what the member pays, with what it is paid
pub record Entered (m : ℕ) (pays : List ℕ) (balances xs : List ℤ) : Type 0 where
  pub each : length xs ≡ members
  pub sums : (i : ℕ) → i < members
      → get_or xs i (pos 0) ≡ get_or balances i (pos 0) -ℤ pos (total amount_of (queue_of i (take m pays))) +ℤ pos (total (amount_to i) (take m pays))
  pub near : (i : ℕ) → i < members → far (get_or xs i (pos 0)) ≤ far_balance + far_amount * m
