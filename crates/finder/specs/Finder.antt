-- What the finder of the largest set asks, keeps and promises. The positions are the balances with the payments below the tops booked.
-- There are n members and i is one, `used` payments wait; positions xs became ys, and tops ts became us; H is a house.
use Rattle.std.specs.Prelude.{◌≡◌, Bool, true, false, List, ℕ, ◌+◌, ◌*◌, ◌≤◌, ◌<◌, ℤ, pos, ◌-ℤ◌, length, get_or, set, take}
use Rattle.std.specs.Int.Signed.{lt_z}
use Rattle.rule.specs.Kernel.{Counts}
use Rattle.rule.specs.Workings.Law.{Around}
use Rattle.rule.specs.Payment.{payee_of, amount_of}
use Rattle.rule.specs.House.{House, waits, position, leeway, Covered, AllowedSet}
use Rattle.rule.specs.Table.{queue_of}
use Rattle.tables.specs.Sizes.{members}
use Rattle.finder.specs.Limits.{far, far_amount, far_position}
use Rattle.finder.specs.Tops.{counts_of, height, Behind, Topped, Linked, LastAt}
use Rattle.finder.specs.Positions.{moved, Small, Steady}

-- ---- what is asked

-- the lists have their sizes, each top is just behind a payment of its member, and no position can leave its range before every top is 0
pub record InRange (used : ℕ) (pays : List ℕ) (positions lines : List ℤ) (tops : List ℕ) : Type 0 where
  pub topped : Topped used pays tops
  pub behind : (i : ℕ) → i < members → Behind pays i (get_or tops i 0)
  pub each_position : length positions ≡ members
  pub each_line : length lines ≡ members
  pub small : Small used pays
  pub near : (i : ℕ) → i < members → far (get_or positions i (pos 0)) + far_amount * height tops ≤ far_position

-- the house H of n members has some allowed set, and these payments and lines; the positions are its own if what is below the tops is
-- booked; and every allowed set lies inside that
pub record Stood (n used : ℕ) (H : House) (pays : List ℕ) (positions lines : List ℤ) (tops : List ℕ) : Type 0 where
  pub few : n ≤ members
  pub some : Counts
  pub allowed : AllowedSet n H some
  pub queues : (i : ℕ) → i < n → H.queue i ≡ queue_of i (take used pays)
  pub line : (i : ℕ) → i < n → get_or lines i (pos 0) ≡ leeway H i
  pub stand : (i : ℕ) → i < members → get_or positions i (pos 0) ≡ position n H (counts_of pays tops) i
  pub around : Around n (Covered n H) (waits H) (counts_of pays tops)

-- some house stands so
pub record Ready (n used : ℕ) (pays : List ℕ) (positions lines : List ℤ) (tops : List ℕ) : Type 0 where
  pub ranges : InRange used pays positions lines tops
  pub house : House
  pub stood : Stood n used house pays positions lines tops

-- ---- what is promised

-- whichever house stood so before stands so after
abbrev pub Keeps : ℕ → ℕ → List ℕ → List ℤ → List ℤ → List ℕ → List ℤ → List ℕ → Type 0
Keeps n used pays lines xs ts ys us = (H : House) → Stood n used H pays xs lines ts → Stood n used H pays ys lines us

-- member i is short: its position is below minus its line
abbrev pub Short : List ℤ → List ℤ → ℕ → Bool
Short xs lines i = lt_z (get_or xs i (pos 0)) (pos 0 -ℤ get_or lines i (pos 0))

-- none of the first n members is short
pub record NoneShort (n : ℕ) (xs lines : List ℤ) : Type 0 where
  pub none : (i : ℕ) → i < n → Short xs lines i ≡ false

-- no member is short any more, of every house that stood so before
pub record FoundSet (n used : ℕ) (pays : List ℕ) (lines xs ys : List ℤ) (ts us : List ℕ) : Type 0 where
  pub ranges : InRange used pays ys lines us
  pub keeps : Keeps n used pays lines xs ts ys us
  pub none : NoneShort n ys lines

-- ---- one payment off

-- member i has a payment in, and it can be taken off
pub record Off (pays befores : List ℕ) (xs : List ℤ) (ts : List ℕ) (i : ℕ) : Type 0 where
  pub member : i < members
  pub steady : Steady xs
  pub each : length ts ≡ members
  pub places : get_or ts i 0 ≤ length pays
  pub some : 0 < get_or ts i 0
  pub behind : Behind pays i (get_or ts i 0)
  pub small : Small (get_or ts i 0) pays
  pub linked : Linked (get_or ts i 0) pays befores

-- the last payment of member i was taken off: its amount went back from the payee, and the top is just behind the payment before it
pub record TakenOff (payee : ℕ) (pays : List ℕ) (i : ℕ) (xs ys : List ℤ) (ts us : List ℕ) : Type 0 where
  pub place : ℕ
  pub top : ℕ
  pub last : LastAt pays (get_or ts i 0) i place
  pub paid : payee ≡ payee_of (get_or pays place 0)
  pub low : top ≤ place
  pub behind : Behind pays i top
  pub same : queue_of i (take top pays) ≡ queue_of i (take place pays)
  pub positions : ys ≡ moved xs (payee_of (get_or pays place 0)) i (amount_of (get_or pays place 0))
  pub tops : us ≡ set ts i top

-- ---- a step

-- member i was not short and nothing changed, or a payment was taken off
abbrev pub Fell : Bool → ℕ → List ℤ → List ℤ → List ℤ → List ℕ → List ℕ → Type 0
Fell false i lines xs ys ts us = (Short xs lines i ≡ false) × (ys ≡ xs) × (us ≡ ts)
Fell true i lines xs ys ts us = height us < height ts

-- a step was made from member i, and took a payment off or not
pub record Stepped (any : Bool) (n used i : ℕ) (pays : List ℕ) (lines xs ys : List ℤ) (ts us : List ℕ) : Type 0 where
  pub ranges : InRange used pays ys lines us
  pub keeps : Keeps n used pays lines xs ts ys us
  pub low : height us ≤ height ts
  pub fell : Fell any i lines xs ys ts us

-- ---- a round

-- none of the first m members was short, or a payment was taken off
abbrev pub Went : Bool → ℕ → List ℤ → List ℤ → List ℕ → List ℕ → Type 0
Went false m ys lines ts us = NoneShort m ys lines
Went true m ys lines ts us = height us < height ts

-- a round of the n members is past the first m
pub record Rounded (any : Bool) (n used m : ℕ) (pays : List ℕ) (lines xs ys : List ℤ) (ts us : List ℕ) : Type 0 where
  pub ranges : InRange used pays ys lines us
  pub keeps : Keeps n used pays lines xs ts ys us
  pub low : height us ≤ height ts
  pub went : Went any m ys lines ts us
