-- The steps of a booking, on one list each.
use Rattle.std.specs.Prelude.{◌≡◌, Bool, cond, List, [], ◌∷◌, ◌++◌, ℕ, ◌+◌, ◌-◌, ◌≤◌, ◌<◌, ℤ, length, replicate}
use Rattle.rule.specs.Kernel.{sum}
use Rattle.rule.specs.Payment.{payer_of, payee_of, amount_of}
use Rattle.rule.specs.Table.{leaving, staying}
use Rattle.tables.specs.Sizes.{members, places, table, last_number}
use Rattle.tables.specs.Layout.{waiting_of, settled_of}
use Rattle.finder.specs.Positions.{moved, Small}
use Rattle.booking.specs.Booking.{listed}

-- the payments ws entered into positions, one after the other
abbrev pub entered : List ℤ → List ℕ → List ℤ
entered xs [] = xs
entered xs (w ∷ ws) = entered (moved xs (payer_of w) (payee_of w) (amount_of w)) ws

-- the payments ws stand first in n places, with 0 behind them
abbrev pub closed_up : ℕ → List ℕ → List ℕ
closed_up n ws = ws ++ replicate (n - length ws) 0

-- the first n places of p hold payments whose amounts are in range
pub record Words (n : ℕ) (p : List ℕ) : Type 0 where
  pub deep : n ≤ length p
  pub few : n ≤ places
  pub small : Small n p

-- the payment w passes by counts, which are l before it and k after it: it leaves, or it stays
pub record Passes (w : ℕ) (l k : List ℕ) (leaves : Bool) : Type 0 where
  pub gone : (ws : List ℕ) → leaving (listed l) (w ∷ ws) ≡ cond leaves (w ∷ leaving (listed k) ws) (leaving (listed k) ws)
  pub kept : (ws : List ℕ) → staying (listed l) (w ∷ ws) ≡ cond leaves (staying (listed k) ws) (w ∷ staying (listed k) ws)

-- counters that can take the counts: none leaves its range
pub record Countable (c counts : List ℕ) : Type 0 where
  pub broad : table ≤ length c
  pub settles : (i : ℕ) → i < members → settled_of c i + listed counts i ≤ last_number
  pub waits : sum members (listed counts) ≤ waiting_of c
  pub members : length counts ≡ members
