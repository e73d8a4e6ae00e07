-- A pass that takes the counted payments out and closes the gaps: what it leaves in the places, and the sum of what left.
use mathlib.Core.Path.{◌≡◌, sym, ap, ◌∙◌}
use mathlib.Core.Bool.{true, false}
use mathlib.Core.List.{List, [], ◌∷◌, ◌++◌, append_assoc, append-nil}
use Prim.Native.Nat.{ℕ, ◌+◌, ◌*◌, ◌-◌, ◌≤◌, ◌<◌}
use native.Mathlib.Numerals.{add-one}
use native.Mathlib.Omega.{arith}
use lib.ListN.{length, get_or, set, take, drop, replicate, length-append, length-drop, length-set, drop_of_length-le}
use lib.Seq.{get_or-drop, append_snoc, length-take-le, drop-drop, drop-set-lt, take-suc-set, take-length}
use Rattle.rule.specs.Payment.{amount_of}
use Rattle.rule.specs.Queue.{total}
use Rattle.rule.specs.Table.{leaving, staying}
use Rattle.finder.specs.Limits.{far_amount}
use Rattle.booking.specs.Booking.{listed}
use Rattle.booking.specs.Steps.{closed_up, Words, Passes}
use Rattle.booking.proofs.Passing.{drop-turn, all_stay}

-- two lists that agree from i on
module _ (a b : List ℕ) (i : ℕ) (e : drop i a ≡ drop i b) where
  same_here : get_or a i 0 ≡ get_or b i 0
  same_here =
      let h : (l : List ℕ) → get_or (drop i l) 0 0 ≡ get_or l i 0 = λ l. get_or-drop i l 0 0 ∙ ap (λ k. get_or l k 0) (omega arith) in
      sym (h a) ∙ ap (λ l. get_or l 0 0) e ∙ h b

  same_more : drop (i + 1) a ≡ drop (i + 1) b
  same_more = sym (drop-drop 1 i a) ∙ ap (λ l. drop 1 l) e ∙ drop-drop 1 i b

take_put : (l : List ℕ) (i a : ℕ) → i < length l → take (i + 1) (set l i a) ≡ take i l ++ (a ∷ [])
take_put l i a h = rw add-one (take-suc-set l i a h)

all-after : (l : List ℕ) (i : ℕ) → take (length l - i) (drop i l) ≡ drop i l
all-after l i = ap (λ k. take k (drop i l)) (sym (length-drop i l)) ∙ take-length (drop i l)

-- before place i, of which `gone` left: the first `to` places, with what stays of the rest, are all that stays; and so for the sum of what left
pub record Closing (p₀ l₀ p l : List ℕ) (paid i to gone : ℕ) : Type 0 where
  pub behind : to + gone ≡ i
  pub within : i ≤ length p₀
  pub long : length p ≡ length p₀
  pub ahead : drop i p ≡ drop i p₀
  pub kept : take to p ++ staying (listed l) (drop i p₀) ≡ staying (listed l₀) p₀
  pub left : paid + total amount_of (leaving (listed l) (drop i p₀)) ≡ total amount_of (leaving (listed l₀) p₀)
  pub most : paid ≤ far_amount * i

module _ {p₀ l₀ p l : List ℕ} {paid i to gone : ℕ} (g : Words (length p₀) p₀) (h : i < length p₀) (c : Closing p₀ l₀ p l paid i to gone) where
  turn : drop i p₀ ≡ get_or p i 0 ∷ drop (i + 1) p₀
  turn = drop-turn p₀ i h ∙ ap (λ w. w ∷ drop (i + 1) p₀) (sym (same_here p p₀ i c.ahead))

  -- a turn of the pass finds amounts in range,
  pub closing-small : amount_of (get_or p i 0) ≤ far_amount
  closing-small = rw (same_here p p₀ i c.ahead) (g.small i h)

  -- keeps a payment that stays,
  pub closing-keep : (k : List ℕ) → Passes (get_or p i 0) l k false → Closing p₀ l₀ (set p to (get_or p i 0)) k paid (i + 1) (to + 1) gone
  closing-keep k e = record {
    behind = omega (arith, c.behind);
    within = omega arith;
    long = simp length-set c.long;
    ahead = drop-set-lt (i + 1) p to (get_or p i 0) (omega (arith, c.behind)) ∙ same_more p p₀ i c.ahead;
    kept =
        ap (λ r. r ++ staying (listed k) (drop (i + 1) p₀)) (take_put p to (get_or p i 0) (omega (arith, c.behind, c.long)))
        ∙ append_snoc (take to p) (get_or p i 0) (staying (listed k) (drop (i + 1) p₀))
        ∙ ap (λ r. take to p ++ r) (sym (ap (staying (listed l)) turn ∙ e.kept (drop (i + 1) p₀)))
        ∙ c.kept;
    left = ap (λ ws. paid + total amount_of ws) (sym (ap (leaving (listed l)) turn ∙ e.gone (drop (i + 1) p₀))) ∙ c.left;
    most = omega (arith, c.most);
  }

  -- lets one go that leaves,
  pub closing-go : (k : List ℕ) → Passes (get_or p i 0) l k true → Closing p₀ l₀ p k (paid + amount_of (get_or p i 0)) (i + 1) to (gone + 1)
  closing-go k e = record {
    behind = omega (arith, c.behind);
    within = omega arith;
    long = c.long;
    ahead = same_more p p₀ i c.ahead;
    kept = ap (λ r. take to p ++ r) (sym (ap (staying (listed l)) turn ∙ e.kept (drop (i + 1) p₀))) ∙ c.kept;
    left = omega (arith, c.left, ap (total amount_of) (ap (leaving (listed l)) turn ∙ e.gone (drop (i + 1) p₀)));
    most = omega (arith, c.most, closing-small);
  }

module _ {p₀ l₀ p l : List ℕ} {paid i to gone : ℕ} (c : Closing p₀ l₀ p l paid i to gone)
    (none : leaving (listed l) (drop i p₀) ≡ []) where
  -- has the sum where none is left to leave,
  pub closing-sum : paid ≡ total amount_of (leaving (listed l₀) p₀)
  closing-sum = omega (arith, ap (total amount_of) none, c.left)

  all-kept : take to p ++ drop i p₀ ≡ staying (listed l₀) p₀
  all-kept = ap (λ r. take to p ++ r) (sym (all_stay (listed l) (drop i p₀) none)) ∙ c.kept

  rest : drop gone (take (length p - to) (drop to p)) ≡ drop i p₀
  rest = ap (drop gone) (all-after p to) ∙ drop-drop gone to p ∙ ap (λ k. drop k p) c.behind ∙ c.ahead

  freed : gone ≡ length p₀ - length (staying (listed l₀) p₀)
  freed = omega (
    arith,
    ap length all-kept,
    length-append (take to p) (drop i p₀),
    length-take-le to p (omega (arith, c.behind, c.within, c.long)),
    length-drop i p₀,
    c.behind,
    c.within,
  )

  -- and with the gap behind `to` closed has closed up
  pub closing_end : (ys : List ℕ) → ys ≡ drop gone (take (length p - to) (drop to p)) ++ replicate gone 0
      → take to p ++ (ys ++ drop (length p - to) (drop to p)) ≡ closed_up (length p₀) (staying (listed l₀) p₀)
  closing_end ys e =
      ap (λ r. take to p ++ (ys ++ r)) (drop_of_length-le (drop to p) {i = length p - to} (omega (arith, length-drop to p)))
      ∙ ap (λ r. take to p ++ r) (append-nil ys ∙ e ∙ ap (λ r. r ++ replicate gone 0) rest)
      ∙ sym (append_assoc (take to p) (drop i p₀) (replicate gone 0))
      ∙ ap (λ r. r ++ replicate gone 0) all-kept
      ∙ ap (λ k. staying (listed l₀) p₀ ++ replicate k 0) freed
