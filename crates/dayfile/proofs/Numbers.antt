-- Numbers, one field after the other: each turn of the reader, from the fields that are left.
use native.Mathlib.Omega.{arith}
use native.Mathlib.Numerals.{add-one}
use mathlib.Core.Path.{◌≡◌, refl, sym, ap, ◌∙◌}
use mathlib.Core.List.{List, [], ◌∷◌}
use Prim.Native.Nat.{ℕ, zero, suc, ◌+◌, ◌-◌, ◌≤◌, ◌<◌}
use lib.ListN.{length, take, drop, set, length-drop}
use lib.Seq.{sets}
use Rattle.numbers.specs.Numbers.{number_of}
use Rattle.std.specs.Prelude.{Option}
use Rattle.dayfile.specs.Fields.{fields_from, up_to}
use Rattle.dayfile.specs.Entries.{most_counts, FieldNumbers, good, short, also, add_to, numbers_of, values_of, count_from}
use Rattle.dayfile.proofs.Fields.{tab-within, fields-step, fields-end}

none_left : (k : ℕ) → numbers_of k [] ≡ good []
unfolding numbers_of
none_left zero = refl
none_left (suc k) = refl

no_room : (f : List ℕ) (fs : List (List ℕ)) (k : ℕ) → k ≡ 0 → numbers_of k (f ∷ fs) ≡ short []
unfolding numbers_of
no_room f fs k h = rw h

next_field : (f : List ℕ) (fs : List (List ℕ)) (k j : ℕ) (m : Option ℕ) → k ≡ suc j → number_of f ≡ m → numbers_of k (f ∷ fs) ≡ add_to m (numbers_of j fs)
unfolding numbers_of
next_field f fs k j m h e = rw h (ap (λ (x : Option ℕ). add_to x (numbers_of j fs)) e)

also-count : (n x : ℕ) (ns : FieldNumbers) → count_from (n + 1) ns ≡ count_from n (also x ns)
also-count n x (good vs) = let e : n + 1 + length vs ≡ n + suc (length vs) = omega arith in rw e
also-count n x (short vs) = refl

also-values : (l : List ℕ) (n x : ℕ) (ns : FieldNumbers) → sets (set l n x) (n + 1) (values_of ns) ≡ sets l n (values_of (also x ns))
also-values l n x (good vs) = rw add-one
also-values l n x (short vs) = rw add-one

-- what is read of s from at on, where n numbers were read before
abbrev pub left : List ℕ → ℕ → ℕ → FieldNumbers
left s at n = numbers_of (most_counts - n) (fields_from at s)

pub step-full : (s : List ℕ) (at n : ℕ) → at ≤ length s → most_counts ≤ n → left s at n ≡ short []
step-full s at n h k =
    let l : at + up_to (drop at s) ≤ length s = omega (arith, tab-within (drop at s), length-drop at s) in
    rw (fields-step s at (at + up_to (drop at s)) h refl l) (no_room _ _ (most_counts - n) (omega arith))

pub step_end : (s : List ℕ) (at n : ℕ) → length s < at → left s at n ≡ good []
step_end s at n h = ap (numbers_of (most_counts - n)) (fields-end s at h) ∙ none_left (most_counts - n)

pub step_field : (s : List ℕ) (at e n : ℕ) (m : Option ℕ) → at ≤ length s → e ≡ at + up_to (drop at s) → e ≤ length s → n < most_counts
    → m ≡ number_of (take (e - at) (drop at s)) → left s at n ≡ add_to m (left s (e + 1) (n + 1))
step_field s at e n m h q l k b =
    ap (numbers_of (most_counts - n)) (fields-step s at e h q l)
    ∙ next_field (take (e - at) (drop at s)) (fields_from (e + 1) s) (most_counts - n) (most_counts - (n + 1)) m (omega arith) (sym b)

-- what has been read so far, with what is left, is the whole
pub record Turned (s : List ℕ) (ns : FieldNumbers) (v₀ v : List ℕ) (at n : ℕ) : Type 0 where
  pub few : n ≤ most_counts
  pub counted : count_from n (left s at n) ≡ count_from 0 ns
  pub stored : sets v n (values_of (left s at n)) ≡ sets v₀ 0 (values_of ns)

module _ (s : List ℕ) (ns : FieldNumbers) (v₀ v : List ℕ) (at n : ℕ) (t : Turned s ns v₀ v at n) where
  pub turn-stop : (ms : FieldNumbers) → left s at n ≡ ms → (count_from n ms ≡ count_from 0 ns) × (sets v n (values_of ms) ≡ sets v₀ 0 (values_of ns))
  turn-stop ms e = (ap (count_from n) (sym e) ∙ t.counted, ap (λ (m : FieldNumbers). sets v n (values_of m)) (sym e) ∙ t.stored)

  pub turn_on : (e x : ℕ) → n < most_counts → left s at n ≡ also x (left s (e + 1) (n + 1)) → Turned s ns v₀ (set v n x) (e + 1) (n + 1)
  turn_on e x h q =
      let r = turn-stop (also x (left s (e + 1) (n + 1))) q in
      record {
        few = omega arith;
        counted = also-count n x (left s (e + 1) (n + 1)) ∙ r.0;
        stored = also-values v n x (left s (e + 1) (n + 1)) ∙ r.1;
      }
