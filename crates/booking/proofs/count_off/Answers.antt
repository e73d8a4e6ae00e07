-- `booking::count_off` meets its contract: the block of what was settled, filled and put back, and the waiting lowered by the sum of the counts.
use mathlib.Core.Path.{◌≡◌, ap, ◌∙◌}
use mathlib.Core.List.{List, ◌++◌}
use Prim.Native.Nat.{ℕ, ◌+◌, ◌<◌}
use native.Mathlib.Omega.{arith}
use lib.ListN.{length, get_or, take, drop, length-drop}
use lib.Seq.{length-take-le, get_or-take, get_or-drop}
use borrow.Rule.Slice.PartMut.{put_mid}
use Rattle.rule.specs.Lists.{fill, fill_at}
use Rattle.rule.proofs.Lists.{before-fill, fill-length, fill-at}
use Rattle.tables.specs.Sizes.{members}
use Rattle.tables.specs.Layout.{waiting_of, settled_of, settled_at}
use Rattle.booking.specs.Booking.{listed}
use Rattle.booking.specs.Steps.{Countable}
use Rattle.booking.proofs.Filling.{front-fill}
use Rattle.booking.proofs.count_off.Goals as goal

-- the block of what was settled
abbrev block : List ℕ → List ℕ
block c = take members (drop settled_at c)

module _ {c k : List ℕ} (g : Countable c k) where
  long : length (block c) ≡ members
  long = length-take-le members (drop settled_at c) (simp length-drop (omega (arith, g.broad)))

  -- has that of member i at place i,
  settled : (i : ℕ) → i < members → get_or (block c) i 0 ≡ settled_of c i
  settled i h = get_or-take members (drop settled_at c) i 0 h ∙ get_or-drop settled_at c i 0

  module _ (b : List ℕ) (e : b ≡ fill members (λ i. get_or (block c) i 0 + listed k i) (block c)) where
    -- and filled with the counts added, put back, is what they are then;
    filled : put_mid settled_at members c b ≡ fill_at settled_at members (λ i. settled_of c i + listed k i) c
    unfolding fill_at
    filled = ap (λ r. take settled_at c ++ r) (front-fill 0 members (λ i. settled_of c i + listed k i) b (drop settled_at c)
        (rw (e, fill-length (λ i. get_or (block c) i 0 + listed k i) (block c) members (omega (arith, long))) long)
        (λ i h. rw (e, fill-at (λ i. get_or (block c) i 0 + listed k i) (block c) members i 0 h, settled i h)))

    -- as many wait as before
    waiting : get_or (put_mid settled_at members c b) 1 0 ≡ waiting_of c
    waiting = rw filled (before-fill settled_at members (λ i. settled_of c i + listed k i) c (omega (arith, g.broad)) 1 0 (omega arith))

pub add_counts-requires-clause-by_index : goal.add_counts-requires-clause-by_index
add_counts-requires-clause-by_index c i h = rw (settled c.requires i h) (c.requires.settles i h)

pub returns : goal.returns
returns c = rw (waiting c.requires c.add_counts.new.block c.add_counts.ensures, c.tally.ensures, c.requires.members, filled c.requires c.add_counts.new.block c.add_counts.ensures)
