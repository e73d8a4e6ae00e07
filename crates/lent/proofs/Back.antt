-- What was put into the tables' bytes is read back, however long they are; and lists that hold a state can be put there.
use mathlib.Core.Path.{◌≡◌, sym, ◌∙◌, subst}
use mathlib.Core.Logic.{inl, inr}
use mathlib.Core.List.{List}
use Prim.Native.Nat.{ℕ, zero, suc, ◌+◌, ◌-◌, ◌^◌, ◌≤◌, ◌<◌}
use native.Mathlib.Decide.{dec_lt}
use native.Mathlib.Omega.{arith}
use lib.IntN.{ℤ, pos}
use lib.ListN.{length, get_or}
use mir.Syntax.{w64}
use mir.Val.{SFits, to_z, of_z}
use Rattle.rule.specs.Payment.{amount_of}
use Rattle.rule.proofs.Ints.{ints, ≤ℤ-is}
use Rattle.words.specs.Row.{put_row, as_it_is}
use Rattle.words.proofs.Row.{length-row, length-put_row, put_row-outside, row-put_row, row-back-plain, row-back-signed, row_below}
use Rattle.tables.specs.Sizes.{members, places, table, bytes, most_line}
use Rattle.tables.specs.Layout.{Tables, members_in, waiting_in, line_of, lines_at, spare_accounts_at, spare_singles_at, lasts_at, settled_at, spare_counters_at}
use Rattle.tables.specs.Holds.{Holds}
use Rattle.tables.proofs.Same.{tables-same}
use Rattle.tables.proofs.Balances.{accounts-near}
use Rattle.lent.specs.Bytes.{counters_from, places_from, accounts_in, counters_in, pays_in, tables_in, with_tables}
use Rattle.lent.specs.Stands.{Least, Kept}

-- the lists in the bytes have the least lengths
pub least-in : (s : List ℕ) → Least (tables_in s)
least-in s = record {
  accounts = length-row (to_z w64) 8 table s 0;
  counters = length-row as_it_is 4 table s counters_from;
  pays = length-row as_it_is 8 places s places_from;
}

-- and their numbers fit: 64 bits with a sign, 32 bits, 64 bits
pub record Fits (T : Tables) : Type 0 where
  pub least : Least T
  pub accounts : (i : ℕ) → i < table → SFits w64 (get_or T.accounts i (pos 0))
  pub counters : (i : ℕ) → i < table → get_or T.counters i 0 < 256 ^ 4
  pub pays : (i : ℕ) → i < places → get_or T.pays i 0 < 256 ^ 8

module _ (s : List ℕ) (T : Tables) where
  abbrev a : List ℕ
  a = put_row (of_z w64) 8 s 0 T.accounts

  abbrev c : List ℕ
  c = put_row as_it_is 4 a counters_from T.counters

  -- the tables stay as long,
  pub stored-long : length (with_tables s T) ≡ length s
  stored-long = length-put_row as_it_is 8 c places_from T.pays ∙ length-put_row as_it_is 4 a counters_from T.counters ∙ length-put_row (of_z w64) 8 s 0 T.accounts

  -- with each byte past the least length as it was,
  pub stored_past : Least T → (k : ℕ) → bytes ≤ k → get_or (with_tables s T) k 0 ≡ get_or s k 0
  stored_past l k q =
      put_row-outside as_it_is 8 c places_from T.pays k (inr (omega (arith, l.pays)))
      ∙ put_row-outside as_it_is 4 a counters_from T.counters k (inr (omega (arith, l.counters)))
      ∙ put_row-outside (of_z w64) 8 s 0 T.accounts k (inr (omega (arith, l.accounts)))

  module _ (h : Fits T) (room : bytes ≤ length s) where
    -- and the lists are read back: the accounts,
    pub accounts-back : accounts_in (with_tables s T) ≡ T.accounts
    accounts-back =
        row-put_row (to_z w64) 8 table as_it_is 8 c places_from T.pays 0 (inl (omega arith))
        ∙ row-put_row (to_z w64) 8 table as_it_is 4 a counters_from T.counters 0 (inl (omega arith))
        ∙ row-back-signed table s 0 T.accounts (sym h.least.accounts) (omega arith) (λ i l. h.accounts i (omega (arith, h.least.accounts)))

    -- the counters,
    pub counters-back : counters_in (with_tables s T) ≡ T.counters
    counters-back =
        let l = length-put_row (of_z w64) 8 s 0 T.accounts in
        row-put_row as_it_is 4 table as_it_is 8 c places_from T.pays counters_from (inl (omega arith))
        ∙ row-back-plain 4 table a counters_from T.counters (sym h.least.counters) (omega arith) (λ i q. h.counters i (omega (arith, h.least.counters)))

    -- and the places
    pub pays-back : pays_in (with_tables s T) ≡ T.pays
    pays-back =
        let l = length-put_row (of_z w64) 8 s 0 T.accounts in
        let m = length-put_row as_it_is 4 a counters_from T.counters in
        row-back-plain 8 places c places_from T.pays (sym h.least.pays) (omega arith) (λ i q. h.pays i (omega (arith, h.least.pays)))

    pub tables-back : tables_in (with_tables s T) ≡ T
    tables-back = tables-same accounts-back counters-back pays-back

-- ---- what fits

-- a list's number at a place, told by another name of the place
account-at : (a : List ℤ) {i j : ℕ} → j ≡ i → SFits w64 (get_or a j (pos 0)) → SFits w64 (get_or a i (pos 0))
account-at a e f = subst (λ n. SFits w64 (get_or a n (pos 0))) e f

counter_at : (c : List ℕ) {i j : ℕ} → j ≡ i → get_or c j 0 < 256 ^ 4 → get_or c i 0 < 256 ^ 4
counter_at c e f = subst (λ n. get_or c n 0 < 256 ^ 4) e f

zero-fits : SFits w64 (pos 0)
zero-fits = record { sfits = omega arith }

module _ {T : Tables} (k : Kept T) where
  line-fits : (j : ℕ) → j < members → SFits w64 (line_of T.accounts j)
  line-fits j h = elim (dec_lt j (members_in T)) [
    | yes l ↦
        let o = k.holds.accounts.holders j l in
        let t1 = ≤ℤ-is (pos 0) (line_of T.accounts j) o.line in
        let t2 = ≤ℤ-is (line_of T.accounts j) (pos most_line) o.small in
        omega (ints, t1, t2)
    | no l ↦ rw (k.holds.accounts.no_line j (omega arith) h) zero-fits
  ]

  account-fits : (i : ℕ) → i < table → SFits w64 (get_or T.accounts i (pos 0))
  account-fits i q = elim (dec_lt i lines_at) [
    | yes l ↦ let n = accounts-near k.holds.accounts i l in omega (ints, n.above, n.below)
    | no l ↦ elim (dec_lt i spare_accounts_at) [
      | yes m ↦ let e : lines_at + (i - lines_at) ≡ i = omega arith in account-at T.accounts e (line-fits (i - lines_at) (omega arith))
      | no m ↦
          let e : spare_accounts_at + (i - spare_accounts_at) ≡ i = omega arith in
          account-at T.accounts e (rw (k.holds.accounts.spare (i - spare_accounts_at) (omega arith)) zero-fits)
    ]
  ]

  single-fits : (i : ℕ) → i < lasts_at → get_or T.counters i 0 < 256 ^ 4
  single-fits zero q = omega (arith, k.holds.counters.few)
  single-fits (suc zero) q = omega (arith, k.holds.counters.room)
  single-fits (suc (suc i)) q =
      let e : spare_singles_at + i ≡ suc (suc i) = omega arith in
      counter_at T.counters e (omega (arith, k.holds.counters.spare i (omega arith)))

  counter-fits : (i : ℕ) → i < table → get_or T.counters i 0 < 256 ^ 4
  counter-fits i q = elim (dec_lt i lasts_at) [
    | yes l ↦ single-fits i l
    | no l ↦ elim (dec_lt i settled_at) [
      | yes m ↦
          let e : lasts_at + (i - lasts_at) ≡ i = omega arith in
          counter_at T.counters e (omega (arith, k.lasts (i - lasts_at) (omega arith)))
      | no m ↦ elim (dec_lt i spare_counters_at) [
        | yes n ↦
            let j = i - settled_at in
            let e : settled_at + j ≡ i = omega arith in
            counter_at T.counters e (omega (arith, k.holds.numbers.each j (omega arith), k.lasts j (omega arith)))
        | no n ↦
            let e : spare_counters_at + (i - spare_counters_at) ≡ i = omega arith in
            counter_at T.counters e (omega (arith, k.holds.counters.later (i - spare_counters_at) (omega arith)))
      ]
    ]
  ]

  place-fits : (i : ℕ) → i < places → get_or T.pays i 0 < 256 ^ 8
  unfolding amount_of
  place-fits i q = elim (dec_lt i (waiting_in T)) [
    | yes l ↦ omega (arith, (k.holds.places.words i l).small)
    | no l ↦ omega (arith, k.holds.places.no_payment i (omega arith) q)
  ]

  pub kept-fits : Fits T
  kept-fits = record { least = k.least; accounts = account-fits; counters = counter-fits; pays = place-fits }

-- tables whose bytes are bytes, and hold a state
pub held_kept : (s : List ℕ) → ((k : ℕ) → get_or s k 0 < 256) → Holds (tables_in s) → Kept (tables_in s)
held_kept s b h = record { holds = h; least = least-in s; lasts = λ i q. omega (arith, row_below 4 table s counters_from (lasts_at + i) b (omega arith)) }
