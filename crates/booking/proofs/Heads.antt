-- One member's head alone: where it stands, what leaves, what stays, and the tables with it booked.
use mathlib.Core.Path.{◌≡◌, refl, sym, ap, ◌∙◌}
use mathlib.Core.Logic.{◌≢◌}
use mathlib.Core.List.{List, [], ◌∷◌, ◌++◌, append_assoc}
use Prim.Native.Nat.{ℕ, zero, suc, ◌+◌, ◌-◌, ◌*◌, ◌≤◌, ◌<◌}
use native.Mathlib.Decide.{ℕ_discrete, dec_lt}
use native.Mathlib.Omega.{arith}
use Rattle.std.proofs.Common.{Option, Some, None, eqb}
use mathlib.Core.Bool.{Bool, true, false, cond, not}
use Rattle.std.specs.Option.{IsSome}
use Rattle.std.specs.Simd.{first_chunks}
use Rattle.std.specs.List.{position_or_len}
use Rattle.std.specs.List.{position as first_place}
use Rattle.std.proofs.lemmas.List.{drop-take}
use Rattle.std.proofs.Math.Nat.{mul-le-mul_left}
use Rattle.std.proofs.lemmas.Bool.Decides.{nat_tests}
use Rattle.std.proofs.lemmas.List.Folds.{prefix_len-append}
use Rattle.std.proofs.lemmas.List.Quantifiers.{position-Some}
use Rattle.std.proofs.lemmas.List.Sums.{prefix_len-le-length}
use borrow.Author.Tests.{eq-eqb, ne_eqb, eqb-true, eqb-false, lt-ltb}
use lib.IntN.{ℤ, pos}
use lib.ListN.{length, get_or, set, take, drop, replicate, length-take, length-drop, length-set, length-append, take-append-drop}
use lib.Seq.{ext_get_or, get_or-take, get_or-set_same, get_or-set_other, length-take-le, take-take, drop-drop}
use Rattle.rule.specs.Lists.{fill_at}
use Rattle.rule.specs.Kernel.{Counts, none, put, sum}
use Rattle.rule.specs.Payment.{payer_of, payee_of, amount_of}
use Rattle.rule.specs.House.{position}
use Rattle.rule.specs.Table.{queue_of, leaving, staying}
use Rattle.rule.proofs.Lists.{fill-at-length, before-fill, in-fill, past-fill}
use Rattle.rule.proofs.Sums.{sum_one, sum-zero}
use Rattle.rule.proofs.Find.{put-at, put_other, put_all}
use Rattle.rule.proofs.Table.{sent-leaving, received-leaving}
use Rattle.tables.specs.Sizes.{members, table}
use Rattle.tables.specs.Layout.{Tables, members_in, waiting_in, words_in, house_in, settled_at, waiting_of, last_of, settled_of, balance_of}
use Rattle.tables.specs.Holds.{Holds}
use Rattle.tables.proofs.Houses.{holds-payers}
use Rattle.tables.proofs.Balances.{accounts-near}
use Rattle.finder.specs.Positions.{moved, Steady}
use Rattle.booking.specs.Booking.{head_alone, counters_booked, booked_in, HeadAt}
use Rattle.booking.specs.Steps.{entered, closed_up}
use Rattle.booking.proofs.Passing.{drop-turn, leaving-none, staying-none, all_stay}
use Rattle.booking.proofs.Filling.{front-fill}
use Rattle.booking.proofs.Entering.{entered_at, near-far}
use Rattle.booking.proofs.Booked.{closed-booked}

-- ---- looking for it

-- none of these payments is paid by i
abbrev pub Others : ℕ → List ℕ → Type 0
Others i ws = (j : ℕ) → j < length ws → payer_of (get_or ws j 0) ≢ i

-- where i pays one, there is a first,
pays-one : (i : ℕ) (ws : List ℕ) → 0 < length (queue_of i ws) → position_or_len (λ w. eqb (payer_of w) i) ws < length ws
pays-one i [] h = absurd (omega arith)
pays-one i (w ∷ ws) h = go (eqb (payer_of w) i) (pays-one i ws) h
  where
    go : (b : Bool) → (0 < length (queue_of i ws) → position_or_len (λ w. eqb (payer_of w) i) ws < length ws)
        → 0 < length (cond b (w ∷ queue_of i ws) (queue_of i ws)) → cond (not b) (1 + position_or_len (λ w. eqb (payer_of w) i) ws) 0 < suc (length ws)
    go true ih h = omega arith
    go false ih h = omega (arith, ih h)

-- which is found,
pub head-found : (i : ℕ) (ws : List ℕ) → 0 < length (queue_of i ws) → IsSome (first_place (λ w. eqb (payer_of w) i) ws)
head-found i ws h = rw (lt-ltb (position_or_len (λ w. eqb (payer_of w) i) ws) (length ws) (pays-one i ws h))

-- and is the head
pub head-at : (used i k : ℕ) (p : List ℕ) → used ≤ length p → first_place (λ w. eqb (payer_of w) i) (take used p) ≡ Some k → HeadAt used p i k
head-at used i k p h e =
    let f = position-Some (λ w. eqb (payer_of w) i) (take used p) k 0 e in
    let q : k < used = omega (arith, length-take used p) in
    record {
      within = q;
      payer = eqb-true (payer_of (get_or p k 0)) i (rw (get_or-take used p k 0 q) at f.1);
      others = λ j l. eqb-false (payer_of (get_or p j 0)) i (rw (get_or-take used p j 0 (omega arith)) at (f.2 j l));
    }

-- ---- looking for it block by block

-- the first of these payments that i pays, where it pays one,
abbrev pub first : ℕ → List ℕ → Option ℕ
first i ws = first_place (λ w. eqb (payer_of w) i) ws

-- and its place, or how many they are
abbrev pub place : ℕ → List ℕ → ℕ
place i ws = position_or_len (λ w. eqb (payer_of w) i) ws

-- i pays none of the first n: the first that it pays is the first of the rest
abbrev pub Behind : ℕ → ℕ → List ℕ → Type 0
Behind i n ws = place i ws ≡ n + place i (drop n ws)

parts : (i n : ℕ) (ws : List ℕ)
    → place i ws ≡ cond (eqb (place i (take n ws)) (length (take n ws))) (length (take n ws) + place i (drop n ws)) (place i (take n ws))
parts i n ws = ap (place i) (sym (take-append-drop n ws)) ∙ prefix_len-append (λ w. not (eqb (payer_of w) i)) (take n ws) (drop n ws)

part-behind : (i n : ℕ) (ws : List ℕ) → n ≤ length ws → first i (take n ws) ≡ None → Behind i n ws
part-behind i n ws h e =
    grind (arith, nat_tests, parts i n ws, length-take-le n ws h, prefix_len-le-length (λ w. not (eqb (payer_of w) i)) (take n ws))

part-first : (i n j : ℕ) (ws : List ℕ) → first i (take n ws) ≡ Some j → first i ws ≡ Some j
part-first i n j ws e = grind (arith, nat_tests, parts i n ws, length-take n ws)

block-part : {X : Type 0} (n m k : ℕ) (xs : List X) → k < m → get_or (first_chunks n m xs) k [] ≡ take n (drop (k * n) xs)
block-part n zero k xs l = absurd (omega arith)
block-part n (suc m) zero xs l = let e : 0 ≡ 0 * n = omega arith in ap (λ j. take n (drop j xs)) e
block-part n (suc m) (suc k) xs l =
    let e : n + k * n ≡ suc k * n = omega arith in
    block-part n m k (drop n xs) (omega arith) ∙ ap (take n) (drop-drop (k * n) n xs ∙ ap (λ j. drop j xs) e)

module _ (i n m k : ℕ) (ws : List ℕ) (l : k < m) where
  -- a block of n that i does not pay in is passed,
  pub block-behind : m * n ≤ length ws → Behind i (k * n) ws → first i (get_or (first_chunks n m ws) k []) ≡ None → Behind i ((k + 1) * n) ws
  block-behind q h e =
      let a : k * n + n ≡ (k + 1) * n = omega arith in
      let r : n ≤ length (drop (k * n) ws) = omega (arith, length-drop (k * n) ws, mul-le-mul_left n l) in
      let f = part-behind i n (drop (k * n) ws) r (rw (block-part n m k ws l) at e) in
      omega (arith, h, f, ap (place i) (drop-drop n (k * n) ws ∙ ap (λ j. drop j ws) a))

  -- the first that it pays in a block is the first of the rest,
  pub block-first : (j : ℕ) → first i (get_or (first_chunks n m ws) k []) ≡ Some j → first i (drop (k * n) ws) ≡ Some j
  block-first j e = part-first i n j (drop (k * n) ws) (rw (block-part n m k ws l) at e)

module _ (i n : ℕ) (ws : List ℕ) (h : Behind i n ws) where
  -- and the first of the rest, where there is one, is the first of all
  pub rest-found : IsSome (first i ws) → IsSome (first i (drop n ws))
  rest-found e = grind (arith, nat_tests, length-drop n ws)

  pub rest-first : (j : ℕ) → first i (drop n ws) ≡ Some j → first i ws ≡ Some (n + j)
  rest-first j e = grind (arith, nat_tests, length-drop n ws)

-- ---- what leaves, and what stays

none-leave : (z : Counts) → ((j : ℕ) → z j ≡ 0) → (ws : List ℕ) → leaving z ws ≡ []
none-leave z e [] = refl
none-leave z e (w ∷ ws) = leaving-none z w ws (e (payer_of w)) ∙ none-leave z e ws

module _ (i w : ℕ) (ys : List ℕ) (e : payer_of w ≡ i) where
  one : head_alone i (payer_of w) ≡ suc 0
  one = rw e (put-at none i 1)

  taken : (j : ℕ) → put (head_alone i) (payer_of w) 0 j ≡ 0
  taken j = rw e (put_all (λ j x. x ≡ 0) (head_alone i) i 0 j refl (λ ne. put_other none i 1 j ne))

  here-leaves : leaving (head_alone i) (w ∷ ys) ≡ w ∷ []
  here-leaves =
      ap (λ k. elim k as (λ _. List ℕ) [ zero ↦ leaving (head_alone i) ys | suc j ↦ w ∷ leaving (put (head_alone i) (payer_of w) j) ys ]) one
      ∙ ap (λ r. w ∷ r) (none-leave (put (head_alone i) (payer_of w) 0) taken ys)

  here-stays : staying (head_alone i) (w ∷ ys) ≡ ys
  here-stays =
      ap (λ k. elim k as (λ _. List ℕ) [ zero ↦ w ∷ staying (head_alone i) ys | suc j ↦ staying (put (head_alone i) (payer_of w) j) ys ]) one
      ∙ all_stay (put (head_alone i) (payer_of w) 0) ys (none-leave (put (head_alone i) (payer_of w) 0) taken ys)

  head-queues : (xs : List ℕ) → Others i xs → queue_of i (xs ++ (w ∷ ys)) ≡ w ∷ queue_of i ys
  head-queues [] f = rw (eq-eqb (payer_of w) i e)
  head-queues (x ∷ xs) f = rw (ne_eqb (payer_of x) i (f 0 (omega arith))) (head-queues xs (λ j q. f (suc j) (omega arith)))

  head-leaves : (xs : List ℕ) → Others i xs → leaving (head_alone i) (xs ++ (w ∷ ys)) ≡ w ∷ []
  head-leaves [] f = here-leaves
  head-leaves (x ∷ xs) f =
      leaving-none (head_alone i) x (xs ++ (w ∷ ys)) (put_other none i 1 (payer_of x) (f 0 (omega arith))) ∙ head-leaves xs (λ j q. f (suc j) (omega arith))

  head-stays : (xs : List ℕ) → Others i xs → staying (head_alone i) (xs ++ (w ∷ ys)) ≡ xs ++ ys
  head-stays [] f = here-stays
  head-stays (x ∷ xs) f =
      staying-none (head_alone i) x (xs ++ (w ∷ ys)) (put_other none i 1 (payer_of x) (f 0 (omega arith)))
      ∙ ap (λ r. x ∷ r) (head-stays xs (λ j q. f (suc j) (omega arith)))

-- the places from i on, of the first n, are the first n - i of those from i on
shifted : (p : List ℕ) (i n : ℕ) → i ≤ n → drop i (take n p) ≡ take (n - i) (drop i p)
shifted p i n h = let f : n ≡ i + (n - i) = omega arith in ap (λ k. drop i (take k p)) f ∙ drop-take i (n - i) p

cut_out : (p : List ℕ) (to gap n : ℕ) → to + gap ≤ n → drop gap (take (n - to) (drop to p)) ≡ drop (to + gap) (take n p)
cut_out p to gap n h = ap (λ l. drop gap l) (sym (shifted p to n (omega arith))) ∙ drop-drop gap to (take n p)

regroup : (a b z d : List ℕ) → a ++ ((b ++ z) ++ d) ≡ ((a ++ b) ++ z) ++ d
regroup a b z d = simp append_assoc

module _ {n i k : ℕ} {p : List ℕ} (deep : n ≤ length p) (h : HeadAt n p i k) where
  split : take n p ≡ take k p ++ (get_or p k 0 ∷ drop (k + 1) (take n p))
  split =
      sym (take-append-drop k (take n p))
      ∙ ap (λ r. r ++ drop k (take n p)) (take-take k n p (omega (arith, h.within)))
      ∙ ap (λ r. take k p ++ r) (drop-turn (take n p) k (omega (arith, length-take-le n p deep, h.within)) ∙ ap (λ w. w ∷ drop (k + 1) (take n p)) (get_or-take n p k 0 h.within))

  before : Others i (take k p)
  before j q = rw (get_or-take k p j 0 (omega (arith, length-take k p))) (h.others j (omega (arith, length-take k p)))

  pub head-queue : queue_of i (take n p) ≡ get_or p k 0 ∷ queue_of i (drop (k + 1) (take n p))
  head-queue = ap (queue_of i) split ∙ head-queues i (get_or p k 0) (drop (k + 1) (take n p)) h.payer (take k p) before

  head-gone : leaving (head_alone i) (take n p) ≡ get_or p k 0 ∷ []
  head-gone = ap (leaving (head_alone i)) split ∙ head-leaves i (get_or p k 0) (drop (k + 1) (take n p)) h.payer (take k p) before

  head-kept : staying (head_alone i) (take n p) ≡ take k p ++ drop (k + 1) (take n p)
  head-kept = ap (staying (head_alone i)) split ∙ head-stays i (get_or p k 0) (drop (k + 1) (take n p)) h.payer (take k p) before

  freed : 1 ≡ length (take n p) - length (staying (head_alone i) (take n p))
  freed = omega (
    arith,
    ap length head-kept,
    length-append (take k p) (drop (k + 1) (take n p)),
    length-take-le k p (omega (arith, h.within)),
    length-drop (k + 1) (take n p),
    length-take-le n p deep,
    h.within,
  )

  gap : drop 1 (take (n - k) (drop k p)) ≡ drop (k + 1) (take n p)
  gap = cut_out p k 1 n (omega (arith, h.within))

  -- with the gap of one from there on closed they have closed up
  head-closed : (ys : List ℕ) → ys ≡ drop 1 (take (n - k) (drop k p)) ++ replicate 1 0
      → take k p ++ (ys ++ drop (n - k) (drop k p)) ≡ closed_up (length (take n p)) (staying (head_alone i) (take n p)) ++ drop n p
  head-closed ys e =
      let a : k + (n - k) ≡ n = omega (arith, h.within) in
      ap (λ r. take k p ++ (ys ++ r)) (drop-drop (n - k) k p ∙ ap (λ j. drop j p) a)
      ∙ ap (λ r. take k p ++ (r ++ drop n p)) (e ∙ ap (λ r. r ++ replicate 1 0) gap)
      ∙ regroup (take k p) (drop (k + 1) (take n p)) (replicate 1 0) (drop n p)
      ∙ ap (λ r. (r ++ replicate 1 0) ++ drop n p) (sym head-kept)
      ∙ ap (λ j. (staying (head_alone i) (take n p) ++ replicate j 0) ++ drop n p) freed

-- ---- the tables with it booked

-- the balances with the payment w entered
abbrev pub paid : List ℤ → ℕ → List ℤ
paid a w = moved (take members a) (payer_of w) (payee_of w) (amount_of w)

module _ {T : Tables} (h : Holds T) {i k : ℕ} (q : i < members) (g : HeadAt (waiting_in T) T.pays i k) where
  deep : waiting_in T ≤ length T.pays
  deep = omega (arith, h.places.deep, h.counters.room)

  long : length (take members T.accounts) ≡ members
  long = length-take-le members T.accounts (omega (arith, h.accounts.long))

  pub pays-head : (ys : List ℕ) → ys ≡ drop 1 (take (waiting_in T - k) (drop k T.pays)) ++ replicate 1 0
      → take k T.pays ++ (ys ++ drop (waiting_in T - k) (drop k T.pays)) ≡ (booked_in T (head_alone i)).pays
  pays-head ys e = head-closed deep g ys e ∙ closed-booked h (head_alone i)

  balance-head : (j : ℕ) → j < members → get_or (paid T.accounts (get_or T.pays k 0)) j (pos 0) ≡ position (members_in T) (house_in T) (head_alone i) j
  balance-head j l =
      ap (λ ws. get_or (entered (take members T.accounts) ws) j (pos 0)) (sym (head-gone deep g))
      ∙ entered_at (take members T.accounts) (leaving (head_alone i) (words_in T)) j long
      ∙ rw (
        get_or-take members T.accounts j (pos 0) l,
        sent-leaving (house_in T) (words_in T) (head_alone i) j refl,
        received-leaving (members_in T) (house_in T) (words_in T) (head_alone i) j (λ j k. refl) (holds-payers h),
      )

  -- the amount moves among the balances,
  pub accounts-head : paid T.accounts (get_or T.pays k 0) ++ drop members T.accounts ≡ (booked_in T (head_alone i)).accounts
  unfolding booked_in
  accounts-head =
      front-fill (pos 0) members (position (members_in T) (house_in T) (head_alone i)) (paid T.accounts (get_or T.pays k 0)) T.accounts
      (simp length-set long) balance-head

  -- and a payment waits that is not settled
  pub head-waits : (1 ≤ waiting_in T) × (settled_of T.counters i < last_of T.counters i)
  head-waits = (omega (arith, g.within), omega (arith, h.numbers.each i q, ap length (head-queue deep g)))

-- the balances have room for a payment
pub head-steady : {T : Tables} → Holds T → Steady (take members T.accounts)
head-steady {T} h = record {
  each = length-take-le members T.accounts (omega (arith, h.accounts.long));
  near = λ j l. rw (get_or-take members T.accounts j (pos 0) l) (omega (arith, near-far (balance_of T.accounts j) (accounts-near h.accounts j l)));
}

one-head : (i : ℕ) → i < members → sum members (head_alone i) ≡ 1
one-head i q = sum_one members (head_alone i) none i 1 q (put-at none i 1) (λ j l ne. put_other none i 1 j ne) ∙ omega (arith, sum-zero members)

-- one more is settled, and one fewer waits
pub counters-head : (c : List ℕ) (i : ℕ) → table ≤ length c → i < members
    → set (set c (settled_at + i) (settled_of c i + 1)) 1 (waiting_of c - 1) ≡ counters_booked c (head_alone i)
counters-head c i b q =
    ap (λ (l : List ℕ). set l 1 (waiting_of c - 1)) block
    ∙ ap (λ n. set (fill_at settled_at members f c) 1 (waiting_of c - n)) (sym (one-head i q))
  where
    f : ℕ → ℕ
    f j = settled_of c j + head_alone i j

    fits : settled_at + members ≤ length c
    fits = omega arith

    other : (j : ℕ) → j ≢ settled_at + i → Dec (j < settled_at) → Dec (j < settled_at + members) → get_or (fill_at settled_at members f c) j 0 ≡ get_or c j 0
    other j e (yes l) d = before-fill settled_at members f c fits j 0 l
    other j e (no l) (no m) = past-fill settled_at members f c fits j 0 (omega arith)
    other j e (no l) (yes m) =
        let r : settled_at + (j - settled_at) ≡ j = omega arith in
        ap (λ k. get_or (fill_at settled_at members f c) k 0) (sym r)
        ∙ in-fill settled_at members f c fits (j - settled_at) 0 (omega arith)
        ∙ ap (λ n. settled_of c (j - settled_at) + n) (put_other none i 1 (j - settled_at) (λ x. e (omega arith)))
        ∙ omega arith
        ∙ ap (λ k. get_or c k 0) r

    at : (j : ℕ) → get_or (set c (settled_at + i) (settled_of c i + 1)) j 0 ≡ get_or (fill_at settled_at members f c) j 0
    at j = elim (ℕ_discrete j (settled_at + i)) [
      | yes e ↦ rw e (get_or-set_same c (settled_at + i) (settled_of c i + 1) 0 (omega arith)
          ∙ sym (in-fill settled_at members f c fits i 0 q ∙ ap (λ n. settled_of c i + n) (put-at none i 1)))
      | no e ↦ get_or-set_other c (settled_at + i) j (settled_of c i + 1) 0 e ∙ sym (other j e (dec_lt j settled_at) (dec_lt j (settled_at + members)))
    ]

    block : set c (settled_at + i) (settled_of c i + 1) ≡ fill_at settled_at members f c
    block =
        ext_get_or 0 (set c (settled_at + i) (settled_of c i + 1)) (fill_at settled_at members f c)
        (simp length-set (sym (fill-at-length settled_at members f c fits))) (λ j l. at j)

-- the waiting are counted at another place
pub waiting_kept : (c : List ℕ) (i v : ℕ) → get_or (set c (settled_at + i) v) 1 0 ≡ waiting_of c
waiting_kept c i v = get_or-set_other c (settled_at + i) 1 v 0 (λ e. absurd (omega arith))
