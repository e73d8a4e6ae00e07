-- What the tables hold once they are filled: 0, then the count in its place, then the balances and the lines in theirs.
use mathlib.Core.Path.{◌≡◌, refl, sym, ap, ◌∙◌}
use mathlib.Core.List.{List, ◌∷◌, ◌++◌}
use Prim.Native.Nat.{ℕ, zero, suc, ◌+◌, ◌-◌, ◌≤◌, ◌<◌}
use native.Mathlib.Decide.{ℕ_discrete, dec_lt}
use native.Mathlib.Omega.{arith}
use borrow.Author.Tests.{lt-ltb, le-ltb, lt-leb, le-leb, ne_eqb}
use borrow.Rule.Slice.PartMut.{put_mid}
use lib.IntN.{ℤ, pos}
use lib.ListN.{length, take, drop, get_or, set, replicate, length-set}
use lib.Seq.{get_or-set_same, get_or-set_other, length-take-le}
use Rattle.std.proofs.lemmas.List.{places}
use Rattle.rule.specs.Lists.{listing, fill}
use Rattle.rule.proofs.Lists.{fill-length, fill-at, fill-past, is-fill}
use Rattle.tables.specs.Sizes.{members, table}
use Rattle.tables.specs.Layout.{lines_at, members_at}
use Rattle.opening.specs.Open.{account_opened, counter_opened}

listing-same {ℓ} : {A : Type ℓ} (n : ℕ) (x : A) → listing n (λ k. x) ≡ replicate n x
unfolding listing
listing-same zero x = refl
listing-same (suc n) x = ap (λ l. x ∷ l) (listing-same n x)

-- the first n places are filled with one value,
pub filled-same {ℓ} : {A : Type ℓ} (n : ℕ) (x : A) (l : List A) {r : List A} → n ≤ length l → r ≡ replicate (length (take n l)) x → r ++ drop n l ≡ fill n (λ k. x) l
unfolding fill
filled-same n x l h e = ap (λ s. s ++ drop n l) (e ∙ ap (λ k. replicate k x) (length-take-le n l h) ∙ sym (listing-same n x))

-- in the counters the count is set,
pub filled-count : (n : ℕ) (c : List ℕ) → table ≤ length c → set (fill table (λ k. 0) c) members_at n ≡ fill table (counter_opened n) c
filled-count n c h =
    let z = fill table (λ k. 0) c in
    let long : length z ≡ length c = fill-length (λ k. 0) c table h in
    is-fill (counter_opened n) c table (set z members_at n) 0 h (simp length-set long) (λ k q. elim (ℕ_discrete k members_at) [
      | yes e ↦ rw e (get_or-set_same z members_at n 0 (omega arith))
      | no e ↦ rw (get_or-set_other z members_at k n 0 e, ne_eqb k members_at e) (fill-at (λ j. 0) c table k 0 q)
    ]) (λ k q. get_or-set_other z members_at k n 0 (λ e. omega arith) ∙ fill-past (λ j. 0) c table k 0 q)

-- two lists put into a third, at its front and from m on,
module _ {A : Type 0} (m n : ℕ) (s t z : List A) (ss : length s ≡ n) (ts : length t ≡ n) (few : n ≤ m) (fits : m + n ≤ length z) where
  abbrev put : List A
  put = put_mid m n (s ++ drop n z) t

  put-length : length put ≡ length z
  put-length = grind (arith, places)

  in-front : (i : ℕ) (d : A) → i < n → get_or put i d ≡ get_or s i d
  in-front i d q = grind (arith, places)

  in_between : (i : ℕ) (d : A) → n ≤ i → i < m → get_or put i d ≡ get_or z i d
  in_between i d q r = grind (arith, places)

  in-middle : (i : ℕ) (d : A) → m ≤ i → i < m + n → get_or put i d ≡ get_or t (i - m) d
  in-middle i d q r = grind (arith, places)

  in-rest : (i : ℕ) (d : A) → m + n ≤ i → get_or put i d ≡ get_or z i d
  in-rest i d q = grind (arith, places)

-- as in the accounts the balances and the lines
module _ (n : ℕ) (b l a : List ℤ) (few : n ≤ members) (bs : length b ≡ n) (ls : length l ≡ n) (h : table ≤ length a) where
  z : List ℤ
  z = fill table (λ k. pos 0) a

  long : length z ≡ length a
  unfolding z
  long = fill-length (λ k. pos 0) a table h

  cleared : (k : ℕ) → k < table → get_or z k (pos 0) ≡ pos 0
  unfolding z
  cleared k q = fill-at (λ j. pos 0) a table k (pos 0) q

  fits : lines_at + n ≤ length z
  fits = omega (arith, long)

  there : (k : ℕ) → k < table → get_or (put_mid lines_at n (b ++ drop n z) l) k (pos 0) ≡ account_opened n b l k
  there k q = elim (dec_lt k n) [
    | yes y ↦ rw (lt-ltb k n y) (in-front lines_at n b l z bs ls few fits k (pos 0) y)
    | no y ↦ elim (dec_lt k lines_at) [
      | yes w ↦ rw (le-ltb k n (omega arith), lt-leb lines_at k w) (in_between lines_at n b l z bs ls few fits k (pos 0) (omega arith) w ∙ cleared k q)
      | no w ↦ elim (dec_lt (k - lines_at) n) [
        | yes v ↦
            let e = in-middle lines_at n b l z bs ls few fits k (pos 0) (omega arith) (omega arith) in
            rw (le-ltb k n (omega arith), le-leb lines_at k (omega arith), lt-ltb (k - lines_at) n v) e
        | no v ↦
            let e = in-rest lines_at n b l z bs ls few fits k (pos 0) (omega arith) ∙ cleared k q in
            rw (le-ltb k n (omega arith), le-leb lines_at k (omega arith), le-ltb (k - lines_at) n (omega arith)) e
      ]
    ]
  ]

  pub filled-accounts : put_mid lines_at n (b ++ drop n (fill table (λ k. pos 0) a)) l ≡ fill table (account_opened n b l) a
  unfolding z
  filled-accounts =
      is-fill (account_opened n b l) a table (put_mid lines_at n (b ++ drop n z) l) (pos 0) h (put-length lines_at n b l z bs ls few fits ∙ long) there
      (λ k q. in-rest lines_at n b l z bs ls few fits k (pos 0) (omega arith) ∙ fill-past (λ j. pos 0) a table k (pos 0) q)
