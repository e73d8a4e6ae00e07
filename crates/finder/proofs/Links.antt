-- With the payments linked place by place, every payment of the places passed is in, and each tells where its payer's payment before it is.
use mathlib.Core.Path.{◌≡◌, sym}
use mathlib.Core.List.{List}
use Prim.Native.Nat.{ℕ, ◌+◌, ◌-◌, ◌≤◌, ◌<◌}
use native.Mathlib.Decide.{ℕ_discrete}
use native.Mathlib.Numerals.{add-one}
use native.Mathlib.Omega.{arith}
use lib.ListN.{length, get_or, set, length-set}
use lib.Seq.{get_or-set_same, get_or-set_other}
use Rattle.rule.specs.Payment.{payer_of}
use Rattle.tables.specs.Sizes.{members}
use Rattle.finder.specs.Tops.{Behind, AllIn, Linked}
use Rattle.finder.proofs.Tops.{payer-under, queue-other}

-- what holds of the first places holds of fewer
pub linked-below : {used t : ℕ} {pays befores : List ℕ} → Linked used pays befores → t ≤ used → Linked t pays befores
linked-below l h = record {
  each = omega (arith, l.each);
  back = λ m k. l.back m (omega arith);
  behind = λ m k. l.behind m (omega arith);
  same = λ m k. l.same m (omega arith);
}

-- ---- the links, place by place

behind-next : (pays : List ℕ) (m : ℕ) → Behind pays (payer_of (get_or pays m 0)) (m + 1)
behind-next pays m h = let e : m + 1 - 1 ≡ m = omega arith in rw e

module _ {m : ℕ} {pays ts : List ℕ} (h : m < length pays) (a : AllIn m pays ts) where
  -- a payer's top comes to stand just behind its payment,
  pub all-in-next : AllIn (m + 1) pays (set ts (payer_of (get_or pays m 0)) (m + 1))
  all-in-next =
      let s = payer_of (get_or pays m 0) in
      let long : s < length ts = rw a.topped.each (payer-under (get_or pays m 0)) in
      record {
        topped = record {
          places = omega arith;
          each = simp length-set a.topped.each;
          within = λ i l. elim (ℕ_discrete i s) [
            | yes e ↦ rw (e, get_or-set_same ts s (m + 1) 0 long) (omega arith)
            | no e ↦ rw (get_or-set_other ts s i (m + 1) 0 e) (omega (arith, a.topped.within i l))
          ];
        };
        behind = λ i l. elim (ℕ_discrete i s) [
          | yes e ↦ rw (e, get_or-set_same ts s (m + 1) 0 long) (behind-next pays m)
          | no e ↦ rw (get_or-set_other ts s i (m + 1) 0 e) (a.behind i l)
        ];
        whole = λ i l. elim (ℕ_discrete i s) [
          | yes e ↦ rw (e, get_or-set_same ts s (m + 1) 0 long)
          | no e ↦ rw (get_or-set_other ts s i (m + 1) 0 e, add-one, queue-other pays i m h (λ q. e (sym q))) (a.whole i l)
        ];
      }

  -- and the payment is told where the top was
  pub linked-next : {befores : List ℕ} → m < length befores → Linked m pays befores
      → Linked (m + 1) pays (set befores m (get_or ts (payer_of (get_or pays m 0)) 0))
  linked-next {befores} long l =
      let s = payer_of (get_or pays m 0) in
      let t = get_or ts s 0 in
      let inside : s < members = payer-under (get_or pays m 0) in
      record {
        each = simp length-set (omega arith);
        back = λ k u. elim (ℕ_discrete k m) [
          | yes e ↦ rw (e, get_or-set_same befores m t 0 long) (a.topped.within s inside)
          | no e ↦ rw (get_or-set_other befores m k t 0 e) (l.back k (omega arith))
        ];
        behind = λ k u. elim (ℕ_discrete k m) [
          | yes e ↦ rw (e, get_or-set_same befores m t 0 long) (a.behind s inside)
          | no e ↦ rw (get_or-set_other befores m k t 0 e) (l.behind k (omega arith))
        ];
        same = λ k u. elim (ℕ_discrete k m) [
          | yes e ↦ rw (e, get_or-set_same befores m t 0 long) (a.whole s inside)
          | no e ↦ rw (get_or-set_other befores m k t 0 e) (l.same k (omega arith))
        ];
      }
