-- After any chain of calls inside a day the sum of balances is the first sum plus accepted deposits, each member is covered, and its line
-- is as opened: from what a chain carries.
use mathlib.Core.Path.{◌≡◌, sym, ap, ◌∙◌}
use mathlib.Core.List.{List}
use Prim.Native.Nat.{ℕ, ◌<◌}
use native.Mathlib.Omega.{arith}
use lib.IntN.{ℤ, pos, ◌+ℤ◌}
use lib.Signed.{◌≤ℤ◌}
use Rattle.rule.specs.Kernel.{sum}
use Rattle.rule.specs.House.{money}
use Rattle.rule.specs.Day.{deposits}
use Rattle.rule.proofs.Day.{carried}
use Rattle.tables.specs.Sizes.{members}
use Rattle.tables.specs.Layout.{Tables, members_in, line_of, money_of, cover_of}
use Rattle.tables.specs.Holds.{Holds}
use Rattle.tables.proofs.Houses.{holds-sound, line-is}
use Rattle.opening.specs.Open.{entry}
use Rattle.days.specs.Days.{Request, after_all, made, Inside, Begun}
use Rattle.days.proofs.Chains.{chain-carries}
use Rattle.days.proofs.Openings.{begun-stands, begun-members, begun-money}

module _ {T : Tables} (h : Holds T) (qs : List Request) (g : Inside qs T) where
  -- the sum of balances is the first sum plus accepted deposits,
  pub chain-money : money_of (after_all qs T).accounts ≡ money_of T.accounts +ℤ pos (sum (members_in T) (deposits (made qs T)))
  chain-money = (chain-carries h qs g).money

  -- each member is at or above minus its line,
  pub chain-covered : (i : ℕ) → i < members_in T → pos 0 ≤ℤ cover_of (after_all qs T).accounts i
  chain-covered i q = let k = chain-carries h qs g in (k.stands.accounts.holders i (omega (arith, k.members))).cover

  -- and the lines stay
  pub chain-lines : (i : ℕ) → i < members_in T → line_of (after_all qs T).accounts i ≡ line_of T.accounts i
  chain-lines i q =
      let k = chain-carries h qs g in
      let s : i < members = omega (arith, h.counters.few) in
      line-is k.stands i s ∙ ap pos ((carried (holds-sound h) k.lived).lines i q) ∙ sym (line-is h i s)

-- in a day it is the opening sum plus accepted deposits
pub day-money : {n : ℕ} {b l : List ℤ} {T : Tables} → Begun n b l T → (qs : List Request) → Inside qs T
    → money_of (after_all qs T).accounts ≡ money n (entry b) +ℤ pos (sum n (deposits (made qs T)))
day-money o qs g = chain-money (begun-stands o) qs g ∙ rw (begun-money o, begun-members o)
