-- Payments entered one after the other take each position to where the rule says, and a pass enters those that leave.
use mathlib.Core.Path.{◌≡◌, refl, sym, ap, ◌∙◌}
use mathlib.Core.Bool.{Bool, true, false, cond}
use mathlib.Core.List.{List, [], ◌∷◌}
use Prim.Native.Nat.{ℕ, ◌+◌, ◌*◌, ◌≤◌, ◌<◌}
use native.Mathlib.Omega.{arith}
use lib.Dec.{eqb}
use lib.IntN.{ℤ, pos, negsuc, ◌+ℤ◌, ◌-ℤ◌}
use lib.ListN.{length, get_or, drop, length-take, length-set}
use lib.Seq.{get_or-take}
use Rattle.rule.specs.Payment.{payer_of, payee_of, amount_of, amount_to}
use Rattle.rule.specs.Queue.{total}
use Rattle.rule.specs.Table.{queue_of, leaving}
use Rattle.rule.proofs.Ints.{plus, minus, eq_of}
use Rattle.rule.proofs.Table.{sent-leaving, received-leaving}
use Rattle.tables.specs.Sizes.{members}
use Rattle.tables.specs.Layout.{Tables, members_in, waiting_in, words_in, house_in, balance_of}
use Rattle.tables.specs.Holds.{Holds}
use Rattle.tables.specs.Needs.{Near}
use Rattle.tables.proofs.Balances.{accounts-near}
use Rattle.tables.proofs.Houses.{holds-payers}
use Rattle.finder.specs.Limits.{far, far_amount, far_balance}
use Rattle.finder.specs.Positions.{moved, Entering}
use Rattle.finder.proofs.Tops.{payer-under, payee-under}
use Rattle.finder.proofs.Positions.{moved_at, moved-far}
use Rattle.booking.specs.Booking.{listed, Counted, Weighed}
use Rattle.booking.specs.Steps.{entered, Words, Passes}
use Rattle.booking.proofs.Passing.{drop-turn}

-- ---- where the entered payments take each position

one_more : (x : ℤ) (b : Bool) (w : ℕ) (q : List ℕ) (r t : ℕ)
    → x -ℤ pos (cond b (amount_of w) 0) +ℤ pos r -ℤ pos (total amount_of q) +ℤ pos t ≡ x -ℤ pos (total amount_of (cond b (w ∷ q) q)) +ℤ pos (r + t)
one_more x true w q r t =
    let a = amount_of w in
    let s = total amount_of q in
    eq_of (x -ℤ pos a +ℤ pos r -ℤ pos s +ℤ pos t) (x -ℤ pos (a + s) +ℤ pos (r + t)) (omega (
      arith,
      minus x (pos a),
      plus (x -ℤ pos a) (pos r),
      minus (x -ℤ pos a +ℤ pos r) (pos s),
      plus (x -ℤ pos a +ℤ pos r -ℤ pos s) (pos t),
      minus x (pos (a + s)),
      plus (x -ℤ pos (a + s)) (pos (r + t)),
    ))
one_more x false w q r t =
    let s = total amount_of q in
    eq_of (x -ℤ pos 0 +ℤ pos r -ℤ pos s +ℤ pos t) (x -ℤ pos s +ℤ pos (r + t)) (omega (
      arith,
      minus x (pos 0),
      plus (x -ℤ pos 0) (pos r),
      minus (x -ℤ pos 0 +ℤ pos r) (pos s),
      plus (x -ℤ pos 0 +ℤ pos r -ℤ pos s) (pos t),
      minus x (pos s),
      plus (x -ℤ pos s) (pos (r + t)),
    ))

none_yet : (x : ℤ) → x ≡ x -ℤ pos 0 +ℤ pos 0
none_yet x = eq_of x (x -ℤ pos 0 +ℤ pos 0) (omega (arith, minus x (pos 0), plus (x -ℤ pos 0) (pos 0)))

-- less what the member pays, with what it is paid
pub entered_at : (xs : List ℤ) (ws : List ℕ) (i : ℕ) → length xs ≡ members
    → get_or (entered xs ws) i (pos 0) ≡ get_or xs i (pos 0) -ℤ pos (total amount_of (queue_of i ws)) +ℤ pos (total (amount_to i) ws)
entered_at xs [] i h = none_yet (get_or xs i (pos 0))
entered_at xs (w ∷ ws) i h =
    entered_at (moved xs (payer_of w) (payee_of w) (amount_of w)) ws i (simp length-set h)
    ∙ ap (λ x. x -ℤ pos (total amount_of (queue_of i ws)) +ℤ pos (total (amount_to i) ws))
    (moved_at xs (payer_of w) (payee_of w) (amount_of w) i (rw h (payer-under w)) (rw h (payee-under w)))
    ∙ one_more (get_or xs i (pos 0)) (eqb (payer_of w) i) w (queue_of i ws) (amount_to i w) (total (amount_to i) ws)

-- and there are as many positions as before
pub entered-length : (xs : List ℤ) (ws : List ℕ) → length (entered xs ws) ≡ length xs
entered-length xs [] = refl
entered-length xs (w ∷ ws) = entered-length (moved xs (payer_of w) (payee_of w) (amount_of w)) ws ∙ simp length-set

-- a balance is far enough from the limits
pub near-far : (z : ℤ) → Near far_balance z → far z ≤ far_balance
near-far (pos n) h = omega arith
near-far (negsuc n) h = omega arith

-- the waiting payments' amounts are in range
pub words-waiting : {T : Tables} → Holds T → Words (length (words_in T)) (words_in T)
words-waiting {T} h = record {
  deep = omega arith;
  few = omega (arith, length-take (waiting_in T) T.pays, h.counters.room);
  small = λ k l.
      let q : k < waiting_in T = omega (arith, length-take (waiting_in T) T.pays) in
      rw (get_or-take (waiting_in T) T.pays k 0 q) (omega (arith, (h.places.words k q).small));
}

module _ {T : Tables} {counts : List ℕ} (g : Counted T counts) (bs : List ℤ) (each : length bs ≡ members)
    (same : (i : ℕ) → i < members → get_or bs i (pos 0) ≡ balance_of T.accounts i) where
  -- the counted payments, entered into the balances, lead to the positions of the rule
  pub weighed : Weighed T counts (entered bs (leaving (listed counts) (words_in T)))
  weighed = record {
    members = entered-length bs (leaving (listed counts) (words_in T)) ∙ each;
    weighs = λ i h. entered_at bs (leaving (listed counts) (words_in T)) i each
        ∙ rw (
          same i h,
          sent-leaving (house_in T) (words_in T) (listed counts) i refl,
          received-leaving (members_in T) (house_in T) (words_in T) (listed counts) i (λ j k. refl) (holds-payers g.holds),
        );
  }

  -- and can be entered into them
  pub can-enter : Entering (waiting_in T) T.pays bs
  can-enter = let h = g.holds in record {
    places = omega arith;
    few = h.counters.room;
    each = each;
    small = λ k l. omega (arith, (h.places.words k l).small);
    near = λ i l. rw (same i l) (near-far (balance_of T.accounts i) (accounts-near h.accounts i l));
  }

  -- and the waiting payments alone can
  pub can-enter-waiting : Entering (length (words_in T)) (words_in T) bs
  can-enter-waiting = let w = words-waiting g.holds in record { places = w.deep; few = w.few; each = each; small = w.small; near = can-enter.near }

-- ---- the pass

-- before place i: what is entered, with what is still to be entered, is all that leaves; each turn takes a position at most an amount further
pub record Underway (p : List ℕ) (xs₀ : List ℤ) (l₀ : List ℕ) (xs : List ℤ) (l : List ℕ) (i : ℕ) : Type 0 where
  pub each : length xs ≡ members
  pub left : entered xs (leaving (listed l) (drop i p)) ≡ entered xs₀ (leaving (listed l₀) p)
  pub near : (k : ℕ) → k < members → far (get_or xs k (pos 0)) ≤ far_balance + far_amount * i

module _ {i : ℕ} {p l₀ l : List ℕ} {xs₀ xs : List ℤ} (g : Entering (length p) p xs₀) (h : i < length p) (u : Underway p xs₀ l₀ xs l i) where
  turn : entered xs (leaving (listed l) (get_or p i 0 ∷ drop (i + 1) p)) ≡ entered xs₀ (leaving (listed l₀) p)
  turn = ap (λ ws. entered xs (leaving (listed l) ws)) (sym (drop-turn p i h)) ∙ u.left

  -- the pass goes by a payment that stays,
  pub underway-stay : (k : List ℕ) → Passes (get_or p i 0) l k false → Underway p xs₀ l₀ xs k (i + 1)
  underway-stay k e = record {
    each = u.each;
    left = ap (λ ws. entered xs ws) (sym (e.gone (drop (i + 1) p))) ∙ turn;
    near = λ k q. omega (arith, u.near k q);
  }

  -- enters one that leaves,
  pub underway-leave : (k : List ℕ) → Passes (get_or p i 0) l k true
      → Underway p xs₀ l₀ (moved xs (payer_of (get_or p i 0)) (payee_of (get_or p i 0)) (amount_of (get_or p i 0))) k (i + 1)
  underway-leave k e = record {
    each = simp length-set u.each;
    left = ap (λ ws. entered xs ws) (sym (e.gone (drop (i + 1) p))) ∙ turn;
    near = λ k q. omega (
      arith,
      u.near k q,
      g.small i h,
      moved-far xs (payer_of (get_or p i 0)) (payee_of (get_or p i 0)) (amount_of (get_or p i 0)) k (rw u.each (payer-under (get_or p i 0)))
          (rw u.each (payee-under (get_or p i 0))),
    );
  }

-- and has entered all where none is left to leave
pub underway-end : {i : ℕ} {p l₀ l : List ℕ} {xs₀ xs : List ℤ} → Underway p xs₀ l₀ xs l i → leaving (listed l) (drop i p) ≡ []
    → xs ≡ entered xs₀ (leaving (listed l₀) p)
underway-end {xs} u e = ap (λ ws. entered xs ws) (sym e) ∙ u.left
