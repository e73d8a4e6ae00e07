-- Eating: each turn, and each byte that goes into the buffer.
use native.Mathlib.Omega.{arith}
use native.Mathlib.Numerals.{add-one}
use mathlib.Core.Path.{◌≡◌, sym, ap, ◌∙◌}
use mathlib.Core.Bool.{true, false}
use mathlib.Core.Logic.{◌≢◌}
use mathlib.Core.List.{List, [], ◌∷◌, ◌++◌, append-nil, append_assoc}
use Prim.Native.Nat.{ℕ, suc, ◌+◌, ◌-◌, ◌≤◌, ◌<◌}
use lib.ListN.{length, get_or, take, drop, drop_of_length-le, length-append, length-drop, take-append-drop}
use lib.Seq.{drop-cons, take_all, length-take-le, get_or-take}
use borrow.Author.Tests.{eq-eqb, ne_eqb, lt-ltb, eqb-true}
use Rattle.dayfile.specs.declared.lines.Cut.{Cut}
use Rattle.dayfile.specs.declared.lines.Ate.{Ate}
use Rattle.dayfile.specs.Chunks.{Held, nothing_held, Eaten, pushed, more, eat_of, state_of, AteSo, EndAt}
use Rattle.dayfile.specs.Lines.{most_bytes}
use Rattle.memchr.specs.Find.{NoneBefore, Passes, is_byte}

pub eat-here : (s : List ℕ) (i : ℕ) (h : Held) → i < length s → get_or s i 0 ≡ 10 → eat_of (drop i s) h ≡ record { done = true; used = 1; held = h }
unfolding eat_of
eat-here s i h l e = rw (drop-cons s i 0 l, eq-eqb (get_or s i 0) 10 e)

pub eat-on : (s : List ℕ) (i : ℕ) (h : Held) → i < length s → (get_or s i 0 ≡ 10 → ⊥) → eat_of (drop i s) h ≡ more (eat_of (drop (i + 1) s) (pushed (get_or s i 0) h))
unfolding eat_of
eat-on s i h l e = rw (add-one, drop-cons s i 0 l, ne_eqb (get_or s i 0) 10 e)

pub eat-none : (s : List ℕ) (i : ℕ) (h : Held) → length s ≤ i → eat_of (drop i s) h ≡ record { done = false; used = 0; held = h }
unfolding eat_of
eat-none s i h l = rw (drop_of_length-le s l)

-- what was found behind i bytes is what is found from the beginning
pub record Going (e₀ e : Eaten) (i : ℕ) : Type 0 where
  pub done : e.done ≡ e₀.done
  pub place : i + e.used ≡ e₀.used
  pub held : e.held ≡ e₀.held

pub going_on : (e₀ e e₁ : Eaten) (i : ℕ) → Going e₀ e i → e ≡ more e₁ → Going e₀ e₁ (i + 1)
going_on e₀ e e₁ i g q =
    record {
      done = sym (ap (λ (x : Eaten). x.done) q) ∙ g.done;
      place = omega (arith, g.place, ap (λ (x : Eaten). x.used) q);
      held = sym (ap (λ (x : Eaten). x.held) q) ∙ g.held;
    }

pub ready_at : (r : Ate) (e₀ e : Eaten) (buf : List ℕ) (from i n : ℕ) → Going e₀ e i
    → e ≡ record { done = r.is_done; used = n; held = state_of buf r.cut } → r.at ≡ from + i + n → AteSo r e₀ buf from
ready_at r e₀ e buf from i n g q p =
    record {
      done = sym (ap (λ (x : Eaten). x.done) q) ∙ g.done;
      place = omega (arith, g.place, ap (λ (x : Eaten). x.used) q);
      held = sym (ap (λ (x : Eaten). x.held) q) ∙ g.held;
    }

-- ---- a whole line in the chunk

-- bytes that are no ends, behind u, are eaten up to the end behind them
eat-line : (part rest u : List ℕ) → ((j : ℕ) → j < length part → get_or part j 0 ≢ 10) → length u + length part ≤ most_bytes
    → eat_of (part ++ (10 ∷ rest)) (record { bytes = u; over = false })
    ≡ record { done = true; used = length part + 1; held = record { bytes = u ++ part; over = false } }
unfolding eat_of
eat-line [] rest u f h = ap (λ (v : List ℕ). record { done = true; used = 1; held = record { bytes = v; over = false } }) (sym (append-nil u))
eat-line (b ∷ part) rest u f h =
    let n : length u < most_bytes = omega arith in
    let m : length (u ++ (b ∷ [])) + length part ≤ most_bytes = omega (arith, length-append u (b ∷ [])) in
    let k : suc (length part + 1) ≡ suc (length part) + 1 = omega arith in
    rw (ne_eqb b 10 (f 0 (omega arith)), lt-ltb (length u) most_bytes n)
    (ap more (eat-line part rest (u ++ (b ∷ [])) (λ j q. f (suc j) (omega arith)) m)
    ∙ ap (λ (v : List ℕ). record { done = true; used = suc (length part + 1); held = record { bytes = v; over = false } }) (append_assoc u (b ∷ []) part)
    ∙ ap (λ k. record { done = true; used = k; held = record { bytes = u ++ (b ∷ part); over = false } }) k)

-- so a line is eaten up to its end
eat-end : (r : List ℕ) (e : ℕ) → EndAt r e → e < length r → e ≤ most_bytes
    → eat_of r nothing_held ≡ record { done = true; used = e + 1; held = record { bytes = take e r; over = false } }
eat-end r e g l h =
    let n : length (take e r) ≡ e = length-take-le e r g.within in
    let d : drop e r ≡ 10 ∷ drop (suc e) r = drop-cons r e 0 l ∙ ap (λ b. b ∷ drop (suc e) r) (g.ends l) in
    let p : r ≡ take e r ++ (10 ∷ drop (suc e) r) = sym (take-append-drop e r) ∙ ap (λ q. take e r ++ q) d in
    ap (λ q. eat_of q nothing_held) p
    ∙ eat-line (take e r) (drop (suc e) r) [] (λ j q. let k : j < e = omega arith in rw (get_or-take e r j 0 k) (g.others j k)) (omega (arith, n))
    ∙ ap (λ k. record { done = true; used = k + 1; held = record { bytes = take e r; over = false } }) n

-- from place from on, where the chunk's rest is looked at
pub eat-whole : (s : List ℕ) (from : ℕ) {n : ℕ} → EndAt (take (length s - from) (drop from s)) n → from + n < length s → n ≤ most_bytes
    → eat_of (drop from s) nothing_held ≡ record {
      done = true;
      used = from + n - from + 1;
      held = record {
        bytes = take (from + n - from)
            (drop from s);
        over = false;
      };
    }
eat-whole s from {n} g l h =
    let e : take (length s - from) (drop from s) ≡ drop from s = take_all (length s - from) (drop from s) (omega (arith, length-drop from s)) in
    let m : from + n - from ≡ n = omega arith in
    rw m (eat-end (drop from s) n (rw e at g) (omega (arith, length-drop from s)) h)

-- a cut with no line begun holds nothing
pub nothing-held : (c : Cut) → c.held ≡ 0 → c.is_long ≡ false → (buf : List ℕ) → state_of buf c ≡ nothing_held
nothing-held c e f buf = rw (e, f)

-- the first byte 10 that a search found is the end of the line
pub first-end : (s : List ℕ) {n : ℕ} → NoneBefore (Passes (is_byte 10) s) 0 (length s) n × Passes (is_byte 10) s n → EndAt s n
first-end s {n} f = record {
  within = omega (arith, f.0.high);
  others = λ j h q. f.0.before j (omega arith) h (eq-eqb (get_or s j 0) 10 q);
  ends = λ h. eqb-true (get_or s n 0) 10 f.1;
}
