-- Which payments are in, told by one place for each of 64 members: of the payments at the first `used` places of the table, those of a
-- member that stand below its top. i is a member, m a place.
use Rattle.std.specs.Prelude.{◌≡◌, List, [], ◌∷◌, ◌++◌, ℕ, ◌-◌, ◌≤◌, ◌<◌, length, get_or, take}
use Rattle.rule.specs.Kernel.{Counts, sum}
use Rattle.rule.specs.Payment.{payer_of}
use Rattle.rule.specs.Table.{queue_of}
use Rattle.tables.specs.Sizes.{members}

-- how many payments of each member stand below its top
abbrev pub counts_of : List ℕ → List ℕ → Counts
counts_of pays tops i = length (queue_of i (take (get_or tops i 0) pays))

-- the sum of the tops
unfoldable pub height : List ℕ → ℕ
height tops = sum members (λ i. get_or tops i 0)

-- the top of member i is 0, or just behind one of its payments
abbrev pub Behind : List ℕ → ℕ → ℕ → Type 0
Behind pays i top = 0 < top → payer_of (get_or pays (top - 1) 0) ≡ i

-- each member has a top, at most at the end of the used places
pub record Topped (used : ℕ) (pays tops : List ℕ) : Type 0 where
  pub places : used ≤ length pays
  pub each : length tops ≡ members
  pub within : (i : ℕ) → i < members → get_or tops i 0 ≤ used

-- no payment of any member is in
pub record NoneIn (tops : List ℕ) : Type 0 where
  pub each : length tops ≡ members
  pub none : (i : ℕ) → i < members → get_or tops i 0 ≡ 0

-- every payment of every member is in, and each top is just behind the member's last one
pub record AllIn (used : ℕ) (pays tops : List ℕ) : Type 0 where
  pub topped : Topped used pays tops
  pub behind : (i : ℕ) → i < members → Behind pays i (get_or tops i 0)
  pub whole : (i : ℕ) → i < members → queue_of i (take (get_or tops i 0) pays) ≡ queue_of i (take used pays)

-- the list tells of each payment a place at or below its own: just behind the payment of the same payer before it, or 0 where there is none
pub record Linked (used : ℕ) (pays befores : List ℕ) : Type 0 where
  pub each : used ≤ length befores
  pub back : (m : ℕ) → m < used → get_or befores m 0 ≤ m
  pub behind : (m : ℕ) → m < used → Behind pays (payer_of (get_or pays m 0)) (get_or befores m 0)
  pub same : (m : ℕ) → m < used
      → queue_of (payer_of (get_or pays m 0)) (take (get_or befores m 0) pays) ≡ queue_of (payer_of (get_or pays m 0)) (take m pays)

-- the last payment of member i below its top stands at this place
pub record LastAt (pays : List ℕ) (top i place : ℕ) : Type 0 where
  pub under : place < top
  pub payer : payer_of (get_or pays place 0) ≡ i
  pub last : queue_of i (take top pays) ≡ queue_of i (take place pays) ++ (get_or pays place 0 ∷ [])

-- the list holds, for each member, how many of its payments stand below its top
pub record CountsBelow (pays tops counts : List ℕ) : Type 0 where
  pub each : length counts ≡ members
  pub below : (i : ℕ) → i < members → get_or counts i 0 ≡ counts_of pays tops i
