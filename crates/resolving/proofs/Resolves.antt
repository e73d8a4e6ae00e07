-- What a resolution does: the tables hold a state again, the rule's house with the largest set booked, and the answer says what the rule says.
use mathlib.Core.Path.{◌≡◌, sym, ap, ◌∙◌}
use Prim.Native.Nat.{ℕ, ◌-◌, ◌<◌}
use native.Mathlib.Decide.{dec_lt}
use native.Mathlib.Omega.{arith}
use lib.Count.{ones}
use lib.Dec.{ltb}
use lib.ListN.{length, length-drop, get_or-eq_default}
use borrow.Author.Tests.{lt-ltb, le-ltb}
use Rattle.rule.specs.House.{waits, LargestSet}
use Rattle.rule.specs.Verdict.{verdict, Says}
use Rattle.rule.specs.Resolution.{resolution}
use Rattle.rule.proofs.Lists.{length-listing, get_or-listing}
use Rattle.rule.proofs.Kernel.{largest-cong}
use Rattle.rule.proofs.Cover.{covered-lawful}
use Rattle.rule.proofs.Resolution.{resolution-largest}
use Rattle.rule.proofs.Verdict.{verdict-says}
use Rattle.sets.specs.Sets.{set_of, size_of, lowest_of, lowest_in}
use Rattle.sets.proofs.Sets.{set-size, set-lowest}
use Rattle.tables.specs.Layout.{Tables, members_in, house_in}
use Rattle.tables.specs.Holds.{Holds}
use Rattle.tables.proofs.Houses.{holds-sound}
use Rattle.booking.specs.Booking.{listed, booked_in}
use Rattle.booking.proofs.Kept.{Books, booked-house}
use Rattle.resolving.specs.Resolve.{largest_in, still_waits}

less-left : (z w : ℕ) → ltb z w ≡ ltb 0 (w - z)
less-left z w = elim (dec_lt z w) [
  | yes q ↦ lt-ltb z w q ∙ sym (lt-ltb 0 (w - z) (omega arith))
  | no q ↦ le-ltb z w (omega arith) ∙ sym (le-ltb 0 (w - z) (omega arith))
]

module _ {T : Tables} (h : Holds T) where
  same : (i : ℕ) → i < members_in T → resolution (members_in T) (house_in T) i ≡ listed (largest_in T) i
  unfolding largest_in
  same i q = sym (get_or-listing (members_in T) (resolution (members_in T) (house_in T)) i 0 q)

  -- the counts told are those of the largest allowed set,
  pub largest-is : LargestSet (members_in T) (house_in T) (listed (largest_in T))
  largest-is = largest-cong (covered-lawful (members_in T) (house_in T)) (listed (largest_in T)) same (resolution-largest (holds-sound h))

  -- which can be booked, so that the laws of a booking hold of it,
  pub largest-books : Books T (listed (largest_in T))
  unfolding largest_in
  largest-books = record {
    allowed = largest-is.allowed;
    past = λ i q k. get_or-eq_default (largest_in T) 0 {n = i} (omega (arith, length-listing (members_in T) (resolution (members_in T) (house_in T))));
  }

  -- the verdict says of the house before what the rule says,
  pub resolve-verdict : Says (members_in T) (house_in T) (verdict (members_in T) (house_in T) (listed (largest_in T)))
  resolve-verdict = verdict-says (holds-sound h) largest-is

  -- the set told has as many members as still wait, and its lowest is theirs,
  pub resolve-waiting : let f = still_waits (house_in T) (listed (largest_in T)) in
      (ones (set_of (members_in T) f) ≡ size_of (members_in T) f) × (lowest_in (set_of (members_in T) f) ≡ lowest_of (members_in T) f)
  resolve-waiting = let f = still_waits (house_in T) (listed (largest_in T)) in (set-size f (members_in T), set-lowest f (members_in T) h.counters.few)

  -- and those are the members with a queue after it
  pub resolve_left : (i : ℕ) → i < members_in T → still_waits (house_in T) (listed (largest_in T)) i ≡ ltb 0 (waits (house_in (booked_in T (listed (largest_in T)))) i)
  resolve_left i l =
      less-left (listed (largest_in T) i) (waits (house_in T) i)
      ∙ ap (ltb 0) (sym (length-drop (listed (largest_in T) i) ((house_in T).queue i))
      ∙ ap length (sym ((booked-house h (listed (largest_in T)) largest-books).queues i l)))
