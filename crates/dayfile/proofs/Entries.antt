-- From what was read of a line to what it says; and each number of an entry has at most 18 digits.
use native.Mathlib.Omega.{arith}
use mathlib.Core.Path.{◌≡◌, refl, sym, ap, ◌∙◌, subst}
use mathlib.Core.Bool.{Bool, true, false, cond}
use mathlib.Core.List.{List, [], ◌∷◌}
use Prim.Native.Nat.{ℕ, zero, suc, ◌+◌, ◌-◌, ◌≤◌, ◌<◌, ◌^◌}
use lib.Dec.{eqb}
use lib.IntN.{ℤ}
use lib.ListN.{length, get_or, take, drop, length-drop}
use lib.Seq.{sets, sets-eq, length-sets, take_at, length-take-le}
use borrow.Author.Tests.{eqb-true, eqb-false}
use Rattle.numbers.specs.Numbers.{most_digits, number_of, signed_of, SmallOf, SmallSigned}
use Rattle.numbers.proofs.Reading.{number_lt}
use Rattle.numbers.proofs.Signs.{signed_lt}
use Rattle.dayfile.specs.declared.Kind.{Kind}
use Rattle.dayfile.specs.declared.Kind.TheVariants as K
use Rattle.dayfile.specs.declared.OpeningLine.TheVariants as O
use Rattle.dayfile.specs.declared.DayLine.TheVariants as D
use Rattle.dayfile.specs.declared.Entry.{Entry as Answer}
use Rattle.dayfile.specs.declared.Entry.TheVariants as E
use Rattle.std.specs.Prelude.{Option, Some, None}
use Rattle.dayfile.specs.Fields.{fields_of, fields_from, up_to, same}
use Rattle.dayfile.specs.Entries.{most_counts, edition, plain_kind, member_word, house, member, pay, deposit, release, group, resolve}
use Rattle.dayfile.specs.Entries.{Entry, opening, day, end, bad, FieldNumbers, good, short, also, add_to, numbers_of, values_of, count_from, kind_of, only_of}
use Rattle.dayfile.specs.Entries.{as_house, group_of, of_kind, of_numbers, as_member, member_of, of_fields, entry_of, AllSmall, SmallEntry}
use Rattle.dayfile.specs.Reading.{meant, counts_left, Tells, left_of}
use Rattle.dayfile.proofs.Fields.{tab-within, fields-line, fields-step, fields-end}

by_eqb : (m n : ℕ) (P : Bool → Type 0) → (m ≡ n → P true) → ((m ≡ n → ⊥) → P false) → P (eqb m n)
by_eqb m n P f g = go (eqb m n) refl
  where
    go : (b : Bool) → eqb m n ≡ b → P b
    go true e = f (eqb-true m n e)
    go false e = g (eqb-false m n e)

-- the first n of the first m
take-within : (n m : ℕ) (v : List ℕ) → n ≤ m → take n (take m v) ≡ take n v
take-within zero m v h = refl
take-within (suc n) zero v h = absurd (omega arith)
take-within (suc n) (suc m) [] h = refl
take-within (suc n) (suc m) (x ∷ v) h = ap (λ (w : List ℕ). x ∷ w) (take-within n m v (omega arith))

-- ---- what is told

-- a bad line,
pub tells-bad : (vs : List ℕ) → Tells E.Bad vs bad
tells-bad vs = record { means = refl; few = omega arith }

-- one whose counts are among the first m of the list, with the whole list beside it,
tells-front : {e : Answer} {l : Entry} (m : ℕ) (v : List ℕ) → m ≤ length v → Tells e (take m v) l → Tells e v l
tells-front {e} {l} m v h t = go e t.means (rw (length-take-le m v h) at t.few)
  where
    go : (e : Answer) → meant e (take m v) ≡ l → counts_left e ≤ m → Tells e v l
    go (E.Opening o) q k = record { means = q; few = omega arith }
    go (E.Day (D.Pay i a b c d)) q k = record { means = q; few = omega arith }
    go (E.Day (D.Deposit a b)) q k = record { means = q; few = omega arith }
    go (E.Day (D.Release a)) q k = record { means = q; few = omega arith }
    go (E.Day (D.Group n)) q k = record { means = ap (λ (w : List ℕ). day (group w)) (sym (take-within n m v k)) ∙ q; few = omega arith }
    go (E.Day D.Resolve) q k = record { means = q; few = omega arith }
    go E.End q k = record { means = q; few = omega arith }
    go E.Bad q k = record { means = q; few = omega arith }

-- and one without counts, with any list beside it
pub tells-any : {e : Answer} {l : Entry} (vs : List ℕ) → Tells e [] l → Tells e vs l
tells-any vs t = tells-front 0 vs (omega arith) t

-- two answers that tell the same are the same
pub tells-one : {e f : Answer} {l : Entry} {vs : List ℕ} → Tells e vs l → Tells f vs l → e ≡ f
tells-one {e} {f} {l} {vs} s t = sym (brief-meant e s.few) ∙ ap brief (s.means ∙ sym t.means) ∙ brief-meant f t.few
  where
    brief : Entry → Answer
    brief (opening (house n)) = E.Opening (O.House n)
    brief (opening (member n b k)) = E.Opening (O.Member n b k)
    brief (day (pay k a b c d)) = E.Day (D.Pay k a b c d)
    brief (day (deposit a b)) = E.Day (D.Deposit a b)
    brief (day (release a)) = E.Day (D.Release a)
    brief (day (group ws)) = E.Day (D.Group (length ws))
    brief (day resolve) = E.Day D.Resolve
    brief end = E.End
    brief bad = E.Bad

    brief-meant : (e : Answer) → counts_left e ≤ length vs → brief (meant e vs) ≡ e
    brief-meant (E.Opening (O.House n)) h = refl
    brief-meant (E.Opening (O.Member n b k)) h = refl
    brief-meant (E.Day (D.Pay k a b c d)) h = refl
    brief-meant (E.Day (D.Deposit a b)) h = refl
    brief-meant (E.Day (D.Release a)) h = refl
    brief-meant (E.Day (D.Group n)) h = rw (length-take-le n vs h)
    brief-meant (E.Day D.Resolve) h = refl
    brief-meant E.End h = refl
    brief-meant E.Bad h = refl

also-le : (x r : ℕ) (ns : FieldNumbers) → length (values_of ns) ≤ r → length (values_of (also x ns)) ≤ suc r
also-le x r (good vs) h = omega arith
also-le x r (short vs) h = omega arith

add-le : (n : Option ℕ) (r : ℕ) (ns : FieldNumbers) → length (values_of ns) ≤ r → length (values_of (add_to n ns)) ≤ suc r
add-le (Some x) r ns h = also-le x r ns h
add-le None r ns h = omega arith

values-le : (r : ℕ) (fs : List (List ℕ)) → length (values_of (numbers_of r fs)) ≤ r
unfolding numbers_of
values-le zero [] = omega arith
values-le zero (f ∷ fs) = omega arith
values-le (suc r) [] = omega arith
values-le (suc r) (f ∷ fs) = add-le (number_of f) r (numbers_of r fs) (values-le r fs)

-- ---- what the count of the numbers tells

good-count : (m n : ℕ) → Some m ≡ Some n → m ≡ n
good-count m n e = cc

-- the numbers stand at the beginning of the list
numbers-put : (v vs : List ℕ) → length vs ≤ length v → take (length vs) (sets v 0 vs) ≡ vs
numbers-put v vs h = let e : 0 + length vs ≤ length v = omega arith in rw (sets-eq vs v 0 e) (take_at vs (drop (0 + length vs) v) (length vs) refl)

count_by : (k : Kind) (ns : FieldNumbers) (m : ℕ) (v w : List ℕ) → count_from 0 ns ≡ Some m → length (values_of ns) ≤ length v → w ≡ sets v 0 (values_of ns)
    → (m ≡ length (values_of ns)) × (of_kind k (take m w) ≡ of_numbers k ns)
count_by k (good vs) m v w e h q =
    let z : m ≡ length vs = omega (arith, good-count (0 + length vs) m e) in
    (z, rw (z, q, numbers-put v vs h))
count_by k (short vs) m v w e h q = let z : ◌≡◌ {A = ℕ} 0 1 = cc in absurd (omega arith)

-- the numbers of some fields were read, and left in the lent list
module _ (fs : List (List ℕ)) (n : Option ℕ) (m : ℕ) (v w : List ℕ) (a : n ≡ count_from 0 (numbers_of most_counts fs)) (b : n ≡ Some m) (l : length v ≡ most_counts)
    (q : w ≡ sets v 0 (values_of (numbers_of most_counts fs))) where
  few : length (values_of (numbers_of most_counts fs)) ≤ length v
  few = omega (arith, values-le most_counts fs)

  pub count-good : (j k : Kind) {r : Answer} → j ≡ k → Tells r (take m w) (of_kind j (take m w)) → Tells r w (of_numbers k (numbers_of most_counts fs))
  count-good j k {r} e t =
      let g = count_by k (numbers_of most_counts fs) m v w (sym a ∙ b) few q in
      let f : m ≤ length w = rw q (omega (arith, g.0, few, length-sets v 0 (values_of (numbers_of most_counts fs)))) in
      subst (Tells r w) (ap (λ (i : Kind). of_kind i (take m w)) e ∙ g.1) (tells-front m w f t)

-- what the first word tells
module _ (s : List ℕ) (e : ℕ) (q : e ≡ 0 + up_to s) (l : e ≤ length s) (b : Bool) (t : b ≡ same (take e s) member_word) where
  pub line-member : b ≡ true → {r : Answer} (v : List ℕ) → Tells r [] (member_of (fields_from (e + 1) s)) → Tells r v (entry_of s) × (v ≡ sets v 0 (left_of s))
  line-member y v h = rw (fields-line s e q l, sym t ∙ y) (tells-any v h, refl)

  pub line-kind : b ≡ false → {r : Answer} (v w : List ℕ) → Tells r w (of_numbers (kind_of (take e s)) (numbers_of most_counts (fields_from (e + 1) s)))
      → w ≡ sets v 0 (values_of (numbers_of most_counts (fields_from (e + 1) s))) → Tells r w (entry_of s) × (w ≡ sets v 0 (left_of s))
  line-kind y v w h j = rw (fields-line s e q l, sym t ∙ y) (h, j)

-- the fields of a member line, one after the other: none,
pub no_field : (s : List ℕ) (from : ℕ) → length s < from → Tells E.Bad [] (member_of (fields_from from s))
no_field s from h = rw (fields-end s from h) (tells-bad [])

-- too few, too many, or three
module _ (s : List ℕ) (from a : ℕ) (h : from ≤ length s) (p : a ≡ from + up_to (drop from s)) (l : a ≤ length s) where
  pub one_field : length s ≤ a → Tells E.Bad [] (member_of (fields_from from s))
  one_field n = rw (fields-step s from a h p l, fields-end s (a + 1) (omega arith)) (tells-bad [])

  module _ (b : ℕ) (i : a < length s) (q : b ≡ a + 1 + up_to (drop (a + 1) s)) (m : b ≤ length s) where
    pub two_fields : length s ≤ b → Tells E.Bad [] (member_of (fields_from from s))
    two_fields n = rw (fields-step s from a h p l, fields-step s (a + 1) b (omega arith) q m, fields-end s (b + 1) (omega arith)) (tells-bad [])

    module _ (c : ℕ) (j : b < length s) (r : c ≡ b + 1 + up_to (drop (b + 1) s)) (o : c ≤ length s) where
      pub more-fields : c < length s → Tells E.Bad [] (member_of (fields_from from s))
      more-fields n =
          let d : c + 1 ≤ length s = omega arith in
          let u : c + 1 + up_to (drop (c + 1) s) ≤ length s = omega (arith, tab-within (drop (c + 1) s), length-drop (c + 1) s) in
          rw (
            fields-step s from a h p l,
            fields-step s (a + 1) b (omega arith) q m,
            fields-step s (b + 1) c (omega arith) r o,
            fields-step s (c + 1) (c + 1 + up_to (drop (c + 1) s)) d refl u,
          ) (tells-bad [])

      pub three-fields : length s ≤ c → (x : Option ℕ) (y : Option ℤ) (z : Option ℕ) {r : Answer}
          → x ≡ number_of (take (a - from) (drop from s)) → y ≡ signed_of (take (b - (a + 1)) (drop (a + 1) s))
          → z ≡ number_of (take (c - (b + 1)) (drop (b + 1) s))
          → Tells r [] (as_member x y z) → Tells r [] (member_of (fields_from from s))
      three-fields n x y z i k u t =
          rw (
            fields-step s from a h p l,
            fields-step s (a + 1) b (omega arith) q m,
            fields-step s (b + 1) c (omega arith) r o,
            fields-end s (c + 1) (omega arith),
            ← i,
            ← k,
            ← u,
          ) t

-- the numbers of a line have at most 18 digits
add_small : (n : Option ℕ) (ns : FieldNumbers) → SmallOf n → AllSmall (values_of ns) → AllSmall (values_of (add_to n ns))
add_small (Some x) (good vs) h s = (h, s)
add_small (Some x) (short vs) h s = (h, s)
add_small None ns h s = tt

numbers-small : (r : ℕ) (fs : List (List ℕ)) → AllSmall (values_of (numbers_of r fs))
unfolding numbers_of
numbers-small zero [] = tt
numbers-small zero (f ∷ fs) = tt
numbers-small (suc r) [] = tt
numbers-small (suc r) (f ∷ fs) = add_small (number_of f) (numbers_of r fs) (number_lt f) (numbers-small r fs)

at_small : (vs : List ℕ) (j : ℕ) → AllSmall vs → get_or vs j 0 < 10 ^ most_digits
at_small [] j s = omega arith
at_small (x ∷ vs) zero s = s.0
at_small (x ∷ vs) (suc j) s = at_small vs j s.1

only-small : (e : Entry) (m k : ℕ) → SmallEntry e → SmallEntry (only_of e m k)
only-small e m k h = by_eqb m k (λ p. SmallEntry (cond p e bad)) (λ q. h) (λ q. tt)

module _ (vs : List ℕ) (l : length vs ≤ most_counts) (s : AllSmall vs) where
  house-small : SmallEntry (as_house (get_or vs 0 0) (get_or vs 1 0))
  house-small = by_eqb (get_or vs 0 0) edition (λ p. SmallEntry (cond p (opening (house (get_or vs 1 0))) bad)) (λ q. at_small vs 1 s) (λ q. tt)

  group-small : SmallEntry (group_of vs)
  group-small = by_eqb (length vs) 0 (λ p. SmallEntry (cond p bad (day (group vs)))) (λ q. tt) (λ q. (s, omega arith, l))

  kind-small : (k : Kind) → SmallEntry (of_kind k vs)
  kind-small K.House = only-small (as_house (get_or vs 0 0) (get_or vs 1 0)) (length vs) 2 house-small
  kind-small K.Pay =
      only-small (day (pay plain_kind (get_or vs 0 0) (get_or vs 1 0) (get_or vs 2 0) (get_or vs 3 0))) (length vs) 4
      (refl, at_small vs 0 s, at_small vs 1 s, at_small vs 2 s, at_small vs 3 s)
  kind-small K.Deposit = only-small (day (deposit (get_or vs 0 0) (get_or vs 1 0))) (length vs) 2 (at_small vs 0 s, at_small vs 1 s)
  kind-small K.Release = only-small (day (release (get_or vs 0 0))) (length vs) 1 (at_small vs 0 s)
  kind-small K.Group = group-small
  kind-small K.Resolve = only-small (day resolve) (length vs) 0 tt
  kind-small K.End = only-small end (length vs) 0 tt
  kind-small K.Other = tt

numbers-entry : (k : Kind) (ns : FieldNumbers) → length (values_of ns) ≤ most_counts → AllSmall (values_of ns) → SmallEntry (of_numbers k ns)
numbers-entry k (good vs) l s = kind-small vs l s k
numbers-entry k (short vs) l s = tt

as-member-small : (n : Option ℕ) (b : Option ℤ) (l : Option ℕ) → SmallOf n → SmallSigned b → SmallOf l → SmallEntry (as_member n b l)
as-member-small (Some n) (Some b) (Some l) x y z = (x, y, z)
as-member-small (Some n) (Some b) None x y z = tt
as-member-small (Some n) None l x y z = tt
as-member-small None b l x y z = tt

member-small : (fs : List (List ℕ)) → SmallEntry (member_of fs)
member-small [] = tt
member-small (n ∷ []) = tt
member-small (n ∷ b ∷ []) = tt
member-small (n ∷ b ∷ l ∷ []) = as-member-small (number_of n) (signed_of b) (number_of l) (number_lt n) (signed_lt b) (number_lt l)
member-small (n ∷ b ∷ l ∷ x ∷ fs) = tt

either-small : (p : Bool) (d e : Entry) → SmallEntry d → SmallEntry e → SmallEntry (cond p d e)
either-small true d e x y = x
either-small false d e x y = y

fields-small : (fs : List (List ℕ)) → SmallEntry (of_fields fs)
fields-small [] = tt
fields-small (w ∷ fs) =
    let ns : FieldNumbers = numbers_of most_counts fs in
    either-small (same w member_word) (member_of fs) (of_numbers (kind_of w) ns) (member-small fs)
    (numbers-entry (kind_of w) ns (values-le most_counts fs) (numbers-small most_counts fs))

-- each number of an entry has at most 18 digits, and a group has 1 to 64 counts
pub entry-small : (s : List ℕ) → SmallEntry (entry_of s)
entry-small s = fields-small (fields_of s)
