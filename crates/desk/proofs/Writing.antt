-- A line that is written where 80 bytes are left stands behind what was used, and the output behind it is as it was.
use mathlib.Core.Path.{◌≡◌, refl, sym, ap, ◌∙◌, subst}
use mathlib.Core.List.{List, ◌++◌}
use Prim.Native.Nat.{ℕ, ◌+◌, ◌-◌, ◌≤◌}
use native.Mathlib.Omega.{arith}
use lib.ListN.{length, take, drop, length-append}
use lib.Seq.{sets, sets-eq, drop_at, drop-drop, length-take-le}
use Rattle.sheet.specs.declared.Says.{Says}
use Rattle.sheet.specs.Lines.{text_of}
use Rattle.sheet.specs.Room.{least_room, Ranges}
use Rattle.sheet.proofs.Room.{wrote-within, wrote-used}
use Rattle.std.specs.Prelude.{Option, Some}
use Rattle.night.specs.Lines.{said_in}
use Rattle.night.specs.Stands.{SaidRanges}
use Rattle.desk.specs.States.{Grown}

sets_behind : (out : List ℕ) (at : ℕ) (v : List ℕ) → at + length v ≤ length out → drop (at + length v) (sets out at v) ≡ drop (at + length v) out
sets_behind out at v l =
    let n : length (take at out) ≡ at = length-take-le at out (omega arith) in
    rw (sets-eq v out at l) (drop_at (take at out ++ v) (drop (at + length v) out) (at + length v) (simp length-append (omega arith)))

-- a line that was written stands behind what was used
pub put-behind : (s : Says) (out : List ℕ) (used : ℕ) → used + least_room ≤ length out → Ranges s → (r : ℕ) (out₁ : List ℕ) → r ≡ used + length (text_of s)
    → out₁ ≡ sets out used (text_of s)
    → (take r out₁ ≡ take used out ++ text_of s) × (r ≤ length out) × Grown used r out out₁
put-behind s out used room g r out₁ e q =
    let w = wrote-within s g out used room in
    rw (e, q) (wrote-used s g out used room, w, record { on = omega arith; rest = sets_behind out used (text_of s) w })

-- nothing is written,
pub grown-none : (u : ℕ) (out : List ℕ) → Grown u u out out
grown-none u out = record { on = omega arith; rest = refl }

-- or some bytes and then more
pub grown-more : {u v w : ℕ} {out out₁ out₂ : List ℕ} → Grown u v out out₁ → Grown v w out₁ out₂ → Grown u w out out₂
grown-more {u} {v} {w} {out} {out₁} a b =
    let e : v + (w - v) ≡ w = omega (arith, b.on) in
    record {
      on = omega (arith, a.on, b.on);
      rest = b.rest ∙ subst (λ (k : ℕ). drop k out₁ ≡ drop k out) e
          (sym (drop-drop (w - v) v out₁) ∙ ap (drop (w - v)) a.rest ∙ drop-drop (w - v) v out);
    }

-- a line that is said is in its ranges
pub said-ranges : (g : Option Says) (s : Says) → g ≡ Some s → SaidRanges (said_in g) → Ranges s
said-ranges g s e r = (subst (λ (x : Option Says). SaidRanges (said_in x)) e r).0
