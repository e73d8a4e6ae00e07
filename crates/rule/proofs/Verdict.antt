-- What the verdict of a resolution says (demand 2).
use mathlib.Core.Path.{◌≡◌, refl}
use mathlib.Core.Logic.{◌↔◌, ◌≢◌}
use Prim.Native.Nat.{ℕ, ◌≤◌, ◌<◌}
use native.Mathlib.Decide.{dec_lt, ℕ_discrete}
use native.Mathlib.Omega.{arith}
use Rattle.rule.specs.Kernel.{Counts, Under, sum}
use Rattle.rule.specs.House.{AllowedSet, LargestSet, Sound, waits, House}
use Rattle.rule.specs.Verdict.{Says, deadlocked, empty, full, partial, verdict, verdict_of}
use Rattle.rule.proofs.Sums.{eqb-other, eqb_same, sum_mono, sum-strict}
use Rattle.rule.proofs.Kernel.{holds-cong}
use Rattle.rule.proofs.Cover.{covered-lawful}

-- ---- of how many waited, and how many were settled

record Split (w s v : ℕ) : Type 0 where
  none : (v ≡ empty) ↔ (w ≡ 0)
  all : (v ≡ full) ↔ ((0 < w) × (s ≡ w))
  some : (v ≡ partial) ↔ ((0 < s) × (s ≢ w))
  stuck : (v ≡ deadlocked) ↔ ((0 < w) × (s ≡ 0))

both : {A B : Type 0} → A → B → A ↔ B
both a b = (λ x. b, λ x. a)

neither : {A B : Type 0} → ¬ A → ¬ B → A ↔ B
neither a b = (λ x. absurd (a x), λ x. absurd (b x))

told : (w s : ℕ) → s ≤ w → Split w s (verdict_of w s)
told w s h = elim (ℕ_discrete w 0) [
  | yes e ↦ rw (eqb_same e) (record {
    none = both refl e;
    all = neither (λ x. omega arith) (λ x. omega arith);
    some = neither (λ x. omega arith) (λ x. omega arith);
    stuck = neither (λ x. omega arith) (λ x. omega arith);
  })
  | no e ↦ elim (ℕ_discrete s 0) [
    | yes f ↦ rw (eqb-other e, eqb_same f) (record {
      none = neither (λ x. omega arith) e;
      all = neither (λ x. omega arith) (λ x. omega arith);
      some = neither (λ x. omega arith) (λ x. omega arith);
      stuck = both refl (omega arith, f);
    })
    | no f ↦ elim (ℕ_discrete s w) [
      | yes g ↦ rw (eqb-other e, eqb-other f, eqb_same g) (record {
        none = neither (λ x. omega arith) e;
        all = both refl (omega arith, g);
        some = neither (λ x. omega arith) (λ x. x.1 g);
        stuck = neither (λ x. omega arith) (λ x. omega arith);
      })
      | no g ↦ rw (eqb-other e, eqb-other f, eqb-other g) (record {
        none = neither (λ x. omega arith) e;
        all = neither (λ x. omega arith) (λ x. omega arith);
        some = both refl (omega arith, g);
        stuck = neither (λ x. omega arith) (λ x. omega arith);
      })
    ]
  ]
]

-- ---- of the house

-- inside y, with the same sum: y
sum_same : (n : ℕ) (f g : Counts) → Under n f g → sum n f ≡ sum n g → (i : ℕ) → i < n → f i ≡ g i
sum_same n f g u e i h = elim (dec_lt (f i) (g i)) [
  | yes s ↦ absurd (omega (arith, sum-strict n f g i u h s))
  | no s ↦ omega (arith, u i h)
]

then : {A B C : Type 0} → A ↔ B → (B → C) → (C → B) → A ↔ C
then p f g = (λ a. f (p.0 a), λ c. p.1 (g c))

-- the verdict says of the house before exactly what document 01 says
pub verdict-says : {n : ℕ} {H : House} {z : Counts} → Sound n H → LargestSet n H z → Says n H (verdict n H z)
verdict-says {n} {H} {z} ok l = record {
  if_empty = t.none;
  if_full = then t.all (λ p. (p.0, whole p.1)) (λ p. (p.0, omega (arith, sum_mono n z (waits H) l.allowed.within, inside (waits H) p.1)));
  if_partial = then t.some (λ p. ((z, l.allowed, p.0), λ a. p.1 (omega (arith, sum_mono n z (waits H) l.allowed.within, inside (waits H) a))))
      (λ p. (omega (arith, inside p.0.0 p.0.1, p.0.2), λ e. p.1 (whole e)));
  if_deadlocked = then t.stuck (λ p. (p.0, λ y a. omega (arith, inside y a))) (λ p. (p.0, p.1 z l.allowed));
}
  where
    t : Split (sum n (waits H)) (sum n z) (verdict n H z)
    t = told (sum n (waits H)) (sum n z) (sum_mono n z (waits H) l.allowed.within)

    inside : (y : Counts) → AllowedSet n H y → sum n y ≤ sum n z
    inside y a = sum_mono n y z (l.top y a)

    whole : sum n z ≡ sum n (waits H) → AllowedSet n H (waits H)
    whole e = record {
      within = λ i h. omega arith;
      holds = λ i h. holds-cong (covered-lawful n H) i z (waits H) h (sum_same n z (waits H) l.allowed.within e) (l.allowed.holds i h);
    }
