-- Texts written one behind the other are one text, and a text copied into a part of the output is written there.
use native.Mathlib.Omega.{arith}
use native.Mathlib.Nat.{add-zero}
use mathlib.Core.Path.{◌≡◌, ◌∙◌}
use mathlib.Core.List.{List, [], ◌∷◌, ◌++◌}
use Prim.Native.Nat.{ℕ, suc, ◌+◌, ◌≤◌}
use lib.ListN.{length, set, take, drop, length-append}
use lib.Seq.{sets, sets-eq}
use borrow.Rule.Slice.PartMut.{put_mid}
use Rattle.std.proofs.Common.{drop-drop, append_assoc}

pub sets-append : (a b l : List ℕ) (i : ℕ) → sets (sets l i a) (i + length a) b ≡ sets l i (a ++ b)
sets-append [] b l i = rw add-zero
sets-append (x ∷ a) b l i =
    let e : i + suc (length a) ≡ suc i + length a = omega arith in
    rw e (sets-append a b (set l i x) (suc i))

-- u behind t, which stands from i on and ends before at
pub behind : (l t u : List ℕ) (i : ℕ) {at at₁ : ℕ} {s s₁ : List ℕ} → (at ≡ i + length t) × (s ≡ sets l i t) → (at₁ ≡ at + length u) × (s₁ ≡ sets s at u)
    → (at₁ ≡ i + length (t ++ u)) × (s₁ ≡ sets l i (t ++ u))
behind l t u i a b = (simp length-append (omega (arith, a.0, b.0)), b.1 ∙ rw (a.1, a.0) (sets-append t u l i))

-- a text t that was copied to place at
pub copied : (at k : ℕ) (l t u : List ℕ) → u ≡ t → k ≡ length t → at + length t ≤ length l → put_mid at k l u ≡ sets l at t
copied at k l t u e f h = rw (e, f, sets-eq t l at h, drop-drop (length t) at l, append_assoc (take at l) t (drop (at + length t) l))
