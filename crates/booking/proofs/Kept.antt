-- Tables with an allowed set booked hold a state again: the house with the set booked, with the same members, last numbers and sum of balances.
use mathlib.Core.Path.{◌≡◌, sym, ap, ◌∙◌, subst}
use Prim.Native.Nat.{ℕ, ◌+◌, ◌-◌, ◌≤◌, ◌<◌}
use native.Mathlib.Decide.{dec_lt}
use native.Mathlib.Omega.{arith}
use lib.IntN.{pos, ◌+ℤ◌}
use lib.Signed.{◌≤ℤ◌}
use lib.ListN.{length, get_or, take, drop, length-drop}
use lib.Seq.{get_or-take, length-take-le, ext_get_or}
use Rattle.rule.specs.Ints.{up}
use Rattle.rule.specs.Kernel.{Counts, sum}
use Rattle.rule.specs.House.{position, AllowedSet, booked, Same}
use Rattle.rule.specs.Table.{queue_of, staying}
use Rattle.rule.proofs.Money.{money-same}
use Rattle.rule.proofs.Table.{queue-staying}
use Rattle.tables.specs.Sizes.{most, members, places, table}
use Rattle.tables.specs.Layout.{Tables, members_in, waiting_in, words_in, house_in, last_of, settled_of, balance_of, line_of, money_of, lines_at, spare_accounts_at, lasts_at, spare_counters_at}
use Rattle.tables.specs.Holds.{Holder, Payment, Holds}
use Rattle.tables.proofs.Houses.{line-is, holds-payment, holds-payers}
use Rattle.booking.specs.Booking.{booked_in}
use Rattle.booking.proofs.Staying.{staying-each, staying-length}
use Rattle.booking.proofs.Booked.{sum-rest}
use Rattle.booking.proofs.Outside.{no-position, money-position}
use Rattle.booking.proofs.Reading.{accounts-length, balance-booked, account-booked, counters-length, waiting-set, settled-booked, counter-before, counter-behind, places-length, place-booked, place-cleared}

-- the counts of n members are all counts
pub counts-sum : (n : ℕ) (z : Counts) → n ≤ members → ((i : ℕ) → n ≤ i → i < members → z i ≡ 0) → sum members z ≡ sum n z
counts-sum n z h f = sum-rest members n z h f

-- z is allowed, and counts nothing past the members: what an accepted release, group or resolution books
pub record Books (T : Tables) (z : Counts) : Type 0 where
  pub allowed : AllowedSet (members_in T) (house_in T) z
  pub past : (i : ℕ) → members_in T ≤ i → i < members → z i ≡ 0

module _ {T : Tables} (h : Holds T) (z : Counts) where
  -- booking keeps how many members there are,
  pub booked-count : members_in (booked_in T z) ≡ members_in T
  booked-count = counter-before h z 0 (λ e. absurd (omega arith)) (omega arith)

  -- the last number of each,
  pub booked-last : (i : ℕ) → i < members → last_of (booked_in T z).counters i ≡ last_of T.counters i
  booked-last i q = counter-before h z (lasts_at + i) (λ e. absurd (omega arith)) (omega arith)

  -- and the sum of balances
  pub booked-money : money_of (booked_in T z).accounts ≡ money_of T.accounts
  booked-money = money-same members (position (members_in T) (house_in T) z) (balance_of (booked_in T z).accounts) (balance-booked h z) ∙ money-position h z

  line_kept : (i : ℕ) → line_of (booked_in T z).accounts i ≡ line_of T.accounts i
  line_kept i = account-booked h z (lines_at + i) (omega arith)

  module _ (b : Books T z) where
    before : length (words_in T) ≡ waiting_in T
    before = length-take-le (waiting_in T) T.pays (omega (arith, h.counters.room, h.places.deep))

    stay : length (staying z (words_in T)) + sum (members_in T) z ≡ waiting_in T
    stay = staying-length (members_in T) (words_in T) z (holds-payers h) b.allowed.within ∙ before

    -- as many wait as stay
    waiting-booked : waiting_in (booked_in T z) ≡ length (staying z (words_in T))
    waiting-booked =
        waiting-set h z ∙ ap (λ k. waiting_in T - k) (counts-sum (members_in T) z h.counters.few b.past)
        ∙ less (length (staying z (words_in T))) (sum (members_in T) z) (waiting_in T) stay
      where
        less : (x y w : ℕ) → x + y ≡ w → w - y ≡ x
        less x y w e = omega arith

    few : length (staying z (words_in T)) ≤ places
    few = omega (arith, stay, h.counters.room)

    words-booked : words_in (booked_in T z) ≡ staying z (words_in T)
    words-booked = ap (λ k. take k (booked_in T z).pays) waiting-booked
        ∙ ext_get_or 0 (take (length (staying z (words_in T))) (booked_in T z).pays) (staying z (words_in T)) long
        (λ k l. let q : k < length (staying z (words_in T)) = subst (λ n. k < n) long l in
        get_or-take (length (staying z (words_in T))) (booked_in T z).pays k 0 q ∙ place-booked h z k (omega (arith, few)))
      where
        long : length (take (length (staying z (words_in T))) (booked_in T z).pays) ≡ length (staying z (words_in T))
        long = length-take-le (length (staying z (words_in T))) (booked_in T z).pays (omega (arith, few, places-length h z, h.places.deep))

    queue-kept : (i : ℕ) → queue_of i (words_in (booked_in T z)) ≡ drop (z i) (queue_of i (words_in T))
    queue-kept i = ap (queue_of i) words-booked ∙ queue-staying i (words_in T) z

    -- the lists hold the house with the set booked,
    pub booked-house : Same (members_in T) (booked (members_in T) (house_in T) z) (house_in (booked_in T z))
    booked-house = record {
      lines = λ i l. ap up (line_kept i);
      balances = λ i l. balance-booked h z i (omega (arith, h.counters.few));
      queues = λ i l. queue-kept i;
    }

    counted : (i : ℕ) → i < members → z i ≤ length (queue_of i (words_in T))
    counted i q = elim (dec_lt i (members_in T)) [ yes l ↦ b.allowed.within i l | no l ↦ omega (arith, b.past i (omega arith) q) ]

    holder-kept : (i : ℕ) → i < members_in T → Holder (balance_of (booked_in T z).accounts i) (line_of (booked_in T z).accounts i)
    holder-kept i l =
        let q : i < members = omega (arith, h.counters.few) in
        let o = h.accounts.holders i l in
        rw (balance-booked h z i q, line_kept i) (record {
          line = o.line;
          small = o.small;
          cover = subst (λ x. pos 0 ≤ℤ (position (members_in T) (house_in T) z i +ℤ x)) (sym (line-is h i q)) (b.allowed.holds i l).cover;
        })

    number-kept : (i : ℕ) → i < members → settled_of (booked_in T z).counters i + length (queue_of i (words_in (booked_in T z))) ≡ last_of (booked_in T z).counters i
    number-kept i q =
        ap (λ k. k + length (queue_of i (words_in (booked_in T z)))) (settled-booked h z i q)
        ∙ ap (λ l. settled_of T.counters i + z i + length l) (queue-kept i)
        ∙ ap (λ k. settled_of T.counters i + z i + k) (length-drop (z i) (queue_of i (words_in T)))
        ∙ whole (settled_of T.counters i) (z i) (length (queue_of i (words_in T))) (counted i q)
        ∙ h.numbers.each i q
        ∙ sym (booked-last i q)
      where
        whole : (s k l : ℕ) → k ≤ l → s + k + (l - k) ≡ s + l
        whole s k l u = omega arith

    -- and hold a state
    pub booked-holds : Holds (booked_in T z)
    booked-holds = record {
      counters = record {
        broad = subst (λ k. table ≤ k) (sym (counters-length h z)) h.counters.broad;
        one = subst (λ k. 1 ≤ k) (sym booked-count) h.counters.one;
        few = subst (λ k. k ≤ members) (sym booked-count) h.counters.few;
        room = subst (λ k. k ≤ places) (sym waiting-booked) few;
        spare = λ k q. counter-before h z (2 + k) (λ e. absurd (omega arith)) (omega arith) ∙ h.counters.spare k q;
        later = λ k q. counter-behind h z (spare_counters_at + k) (omega arith) ∙ h.counters.later k q;
      };
      accounts = record {
        long = subst (λ k. table ≤ k) (sym (accounts-length h z)) h.accounts.long;
        holders = λ i l. holder-kept i (subst (λ k. i < k) booked-count l);
        sum = subst (λ x. x ≤ℤ pos most) (sym booked-money) h.accounts.sum;
        no_balance = λ i l q. balance-booked h z i q ∙ no-position h z i (subst (λ n. n ≤ i) booked-count l) q;
        no_line = λ i l q. line_kept i ∙ h.accounts.no_line i (subst (λ n. n ≤ i) booked-count l) q;
        spare = λ k q. account-booked h z (spare_accounts_at + k) (omega arith) ∙ h.accounts.spare k q;
      };
      places = record {
        deep = subst (λ k. places ≤ k) (sym (places-length h z)) h.places.deep;
        words = λ k l. let q : k < length (staying z (words_in T)) = subst (λ n. k < n) waiting-booked l in
            subst (λ n. Payment n (get_or (booked_in T z).pays k 0)) (sym booked-count)
            (subst (Payment (members_in T)) (sym (place-booked h z k (omega (arith, few))))
            (staying-each (Payment (members_in T)) (words_in T) z (holds-payment h) k q));
        no_payment = λ k l q. place-cleared h z k (subst (λ n. n ≤ k) waiting-booked l) q;
      };
      numbers = record {
        each = number-kept;
        no_number = λ i l q. booked-last i q ∙ h.numbers.no_number i (subst (λ n. n ≤ i) booked-count l) q;
      };
    }
