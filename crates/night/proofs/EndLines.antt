-- The lines at `end`, from the tables of a state: how many payments of a member wait, and which line comes k-th.
use mathlib.Core.Path.{◌≡◌}
use mathlib.Core.List.{List}
use Prim.Native.Nat.{ℕ, ◌+◌, ◌-◌, ◌≤◌, ◌<◌}
use native.Mathlib.Omega.{arith}
use borrow.Author.Tests.{lt-ltb, le-ltb}
use lib.IntN.{ℤ}
use lib.ListN.{length}
use Rattle.rule.specs.Table.{queue_of}
use Rattle.tables.specs.Sizes.{places}
use Rattle.tables.specs.Layout.{count_of, last_of, settled_of, balance_of, money_of, words_of, Tables, members_in}
use Rattle.tables.specs.Holds.{Holds}
use Rattle.tables.proofs.Houses.{few-wait}
use Rattle.sheet.specs.declared.Says.TheVariants as S
use Rattle.night.specs.Lines.{end_at}

-- a member's waiting payments are those accepted and not settled
pub record Left (c p : List ℕ) (i : ℕ) : Type 0 where
  pub some : settled_of c i ≤ last_of c i
  pub few : last_of c i - settled_of c i ≤ places
  pub are : last_of c i - settled_of c i ≡ length (queue_of i (words_of c p))

pub left-waits : {T : Tables} (h : Holds T) (i : ℕ) → i < members_in T → Left T.counters T.pays i
left-waits h i l =
    let q = h.numbers.each i (omega (arith, h.counters.few)) in
    record { some = omega arith; few = omega (arith, few-wait h i); are = omega arith }

module _ (t : Tables) (h : Holds t) (k : ℕ) where
  -- a member's line,
  pub end-balance : k < count_of t.counters → S.Balance (k + 1) (balance_of t.accounts k) (last_of t.counters k - settled_of t.counters k) ≡ end_at t k
  end-balance l = rw (lt-ltb k (count_of t.counters) l, (left-waits h k l).are)

  -- and then the money
  pub end-money : (s : ℤ) → s ≡ money_of t.accounts → count_of t.counters ≤ k → S.Money s ≡ end_at t k
  end-money s e l = rw (le-ltb k (count_of t.counters) l, e)
