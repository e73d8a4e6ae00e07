-- What an accepted opening's numbers satisfy follows from a judgement that found nothing.
use mathlib.Core.Path.{◌≡◌}
use mathlib.Core.Bool.{true}
use mathlib.Core.List.{List}
use Prim.Native.Nat.{ℕ, ◌≤◌, ◌<◌}
use lib.Dec.{eqb, leb}
use lib.IntN.{ℤ, pos}
use lib.Signed.{le_z, ◌≤ℤ◌}
use lib.ListN.{length}
use borrow.Author.Tests.{leb-true, eqb-true, not-false}
use Rattle.rule.specs.House.{money}
use Rattle.tables.specs.Sizes.{members, places, table, most}
use Rattle.tables.specs.Layout.{Tables}
use Rattle.tables.specs.State.{every, holder_ok, sized}
use Rattle.tables.proofs.Tests.{and_both, le-true}
use Rattle.tables.proofs.Every.{every-at}
use Rattle.answers.specs.Codes.{first}
use Rattle.std.specs.Prelude.{Ok}
use Rattle.answers.proofs.Judging.{first_fine}
use Rattle.opening.specs.Open.{entry, opens_at, is_opening, open_tests, open_act}

-- n members may open with the balances b and the lines l
pub record OpensWith (n : ℕ) (b l : List ℤ) : Type 0 where
  pub one : 1 ≤ n
  pub few : n ≤ members
  pub balances : length b ≡ n
  pub lines : length l ≡ n
  pub holders : (i : ℕ) → i < n → holder_ok (entry b i) (entry l i) ≡ true
  pub sum : money n (entry b) ≤ℤ pos most

-- and on tables that are long enough
pub record Opens (T : Tables) (n : ℕ) (b l : List ℤ) : Type 0 where
  pub long : table ≤ length T.accounts
  pub broad : table ≤ length T.counters
  pub deep : places ≤ length T.pays
  pub opening : OpensWith n b l

-- the test of an opening says what it opens with,
pub opening-fine : (n : ℕ) (b l : List ℤ) → is_opening n b l ≡ true → OpensWith n b l
opening-fine n b l e =
    let e1 = and_both (leb 1 n) _ e in
    let e2 = and_both (leb n members) _ e1.1 in
    let e3 = and_both (eqb (length b) n) _ e2.1 in
    let e4 = and_both (eqb (length l) n) _ e3.1 in
    let e5 = and_both (every (opens_at b l) n) (le_z (money n (entry b)) (pos most)) e4.1 in
    record {
      one = leb-true 1 n e1.0;
      few = leb-true n members e2.0;
      balances = eqb-true (length b) n e3.0;
      lines = eqb-true (length l) n e4.0;
      holders = λ i h. every-at (opens_at b l) n i e5.0 h;
      sum = le-true (money n (entry b)) (pos most) e5.1;
    }

-- tests that find nothing say so of the tables too
pub open-fine : {T : Tables} {n : ℕ} {b l : List ℤ} → first ((open_act n b l).tests T) ≡ Ok tt → Opens T n b l
unfolding open_act
open-fine {T} {n} {b} {l} e =
    let f = first_fine (open_tests T n b l) e in
    let s1 = and_both (leb table (length T.accounts)) _ (not-false (sized T.accounts T.counters T.pays) f.0) in
    let s2 = and_both (leb table (length T.counters)) (leb places (length T.pays)) s1.1 in
    record {
      long = leb-true table (length T.accounts) s1.0;
      broad = leb-true table (length T.counters) s2.0;
      deep = leb-true places (length T.pays) s2.1;
      opening = opening-fine n b l (not-false (is_opening n b l) f.1.0);
    }
