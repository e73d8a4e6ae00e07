-- What the house does to lists that were read out of the bytes, and what is then written of it, is what the call does to the bytes.
use mathlib.Core.Path.{◌≡◌, refl, sym, ap, ◌∙◌}
use mathlib.Core.List.{List, [], ◌∷◌}
use Prim.Native.Nat.{ℕ}
use lib.IntN.{ℤ}
use mir.Syntax.{w64}
use mir.Val.{SFits, to_z, of_z}
use mir.Facts.{to_z-of_z}
use Rattle.tables.specs.Layout.{Tables}
use Rattle.words.specs.Le.{put_at}
use Rattle.words.specs.Row.{put_row, as_it_is}
use Rattle.answers.specs.Codes.{code_of}
use Rattle.answers.specs.Outcome.{Outcome, outcome}
use Rattle.answers.specs.declared.Refusal.{Refusal}
use Rattle.lent.specs.Bytes.{tables_in, with_tables}
use Rattle.lent.specs.Reply.{Lent, lends, Told, yes, no, written, on_bytes}

-- no number is written
pub put-none : (w : ℕ) (t : List ℕ) → t ≡ put_row as_it_is w t 0 []
unfolding put_row
put-none w t = refl

-- one signed part
pub put-signed : (t : List ℕ) {t' : List ℕ} {z : ℤ} → SFits w64 z → t' ≡ put_at 8 t 0 (of_z w64 (to_z w64 (of_z w64 z))) → t' ≡ put_row as_it_is 8 t 0 (of_z w64 z ∷ [])
unfolding put_row
put-signed t f e = rw (to_z-of_z {w = w64} f) at e

lends-same : {s t : List ℕ} {u v a b : List ℕ} → s ≡ t → u ≡ v → a ≡ b → lends s u a ≡ lends t v b
lends-same e f g i = lends (e i) (f i) (g i)

-- the house answered r, which is v, and left the lists W
module _ {A : Type 0} (tell : A → Told) (f : Tables → Outcome A) (x : Lent) {T W : Tables} {r v : A}
    (e : T ≡ tables_in x.tables) (o : outcome r W ≡ f T) (is : r ≡ v) where
  ran : written x W (tell v) ≡ on_bytes tell f x
  ran = ap (λ (a : A). written x W (tell a)) (sym is) ∙ ap (λ (u : Outcome A). written x u.after (tell u.answer)) (o ∙ ap f e)

  -- it accepted, and all was written,
  pub accepted : {k p s u t : List ℕ} → tell v ≡ yes k p
      → s ≡ with_tables x.tables W → u ≡ put_row as_it_is 2 x.counts 0 k → t ≡ put_row as_it_is 8 x.answer 0 p
      → (0, lends s u t) ≡ on_bytes tell f x
  accepted q a b c = ap (λ (y : Lent). (0, y)) (lends-same a b c) ∙ ap (written x W) (sym q) ∙ ran

  -- or it refused, and nothing was
  pub refused : {why : Refusal} {n : ℕ} → tell v ≡ no why → n ≡ code_of why → (n, x) ≡ on_bytes tell f x
  refused q c = ap (λ (n : ℕ). (n, x)) c ∙ ap (written x W) (sym q) ∙ ran
