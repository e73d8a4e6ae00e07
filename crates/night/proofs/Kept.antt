-- What a line does leaves tables that suit the stage behind it, and says a line within its ranges: from the calls, which keep a state.
use mathlib.Core.Path.{◌≡◌, refl, sym}
use mathlib.Core.Bool.{Bool, true, false, cond, ◌&&◌}
use mathlib.Core.List.{List}
use Prim.Native.Nat.{ℕ, ◌+◌, ◌≤◌, ◌<◌, ◌^◌}
use native.Mathlib.Omega.{arith}
use borrow.Author.Tests.{leb-true, ltb-true}
use lib.Dec.{eqb, leb, ltb}
use lib.IntN.{ℤ}
use lib.ListN.{get_or, length-set}
use Rattle.tables.specs.Sizes.{members, last_number}
use Rattle.tables.specs.Layout.{Tables, count_of, money_of}
use Rattle.tables.specs.Holds.{Holds}
use Rattle.tables.proofs.Tests.{and_both}
use Rattle.tables.proofs.Houses.{few-wait}
use Rattle.answers.specs.Codes.{first, Judged}
use Rattle.answers.specs.Outcome.{decided, held}
use Rattle.answers.specs.declared.Refusal.{Refusal}
use Rattle.answers.specs.declared.Refusal.TheVariants as R
use Rattle.std.specs.Prelude.{Ok, Err}
use Rattle.opening.specs.Open.{open_act}
use Rattle.opening.proofs.Judging.{Opens, open-fine}
use Rattle.opening.proofs.Opens.{opens-hold, opens-money}
use Rattle.dayfile.specs.Entries.{house, member, Entry, opening, day, end, bad}
use Rattle.sheet.specs.Room.{Ranges}
use Rattle.sheet.specs.declared.Says.TheVariants as S
use Rattle.daylines.proofs.Kept.{code-small, balance-small, money-small, call_kept}
use Rattle.night.specs.declared.Stage.{Stage}
use Rattle.night.specs.declared.Stage.TheVariants as G
use Rattle.night.specs.Lines.{Did, quiet, stops, strays, house_does, given, balances_given, lines_given, opens_to, open_does, given_does, member_does, day_does}
use Rattle.night.specs.Lines.{does_of, balance_says, end_at}
use Rattle.night.specs.Stands.{Giving, StageStands, SaidRanges}

-- ---- what a line leaves

pub record Kept (d : Did) : Type 0 where
  pub stands : StageStands d.stage d.after
  pub ranges : SaidRanges d.said

module _ (n : ℕ) (few : n < 10 ^ 7) where
  stops-kept : (r : Refusal) (t : Tables) → Kept (stops n r t)
  stops-kept r t = record { stands = tt; ranges = ((few, code-small r), tt) }

  -- ---- the opening

  house-by : (count : ℕ) (t : Tables) → StageStands G.House t → (b : Bool) → (leb 1 count && leb count members) ≡ b
      → Kept (cond b (quiet (G.Members count 0) t) (stops n R.Opening t))
  house-by count t s true e =
      let q = and_both (leb 1 count) (leb count members) e in
      record { stands = record { few = leb-true count members q.1; next = leb-true 1 count q.0; sized = s }; ranges = tt }
  house-by count t s false e = stops-kept R.Opening t

  house-kept : (t : Tables) → StageStands G.House t → (e : Entry) → Kept (house_does n t e)
  house-kept t s (opening (house count)) = house-by count t s (leb 1 count && leb count members) refl
  house-kept t s (opening (member m b l)) = stops-kept R.Line t
  house-kept t s (day d) = stops-kept R.Line t
  house-kept t s end = stops-kept R.Line t
  house-kept t s bad = stops-kept R.Line t

  open_kept : (count : ℕ) (t : Tables) → count ≤ members → Kept (open_does n count t)
  unfolding held open_act
  open_kept count t f = go (first ((open_act count b l).tests t)) refl
    where
      b : List ℤ
      b = balances_given count t

      l : List ℤ
      l = lines_given count t

      go : (j : Judged) → first ((open_act count b l).tests t) ≡ j → Kept (opens_to n count (decided (open_act count b l) t j))
      go (Ok u) e =
          let o : Opens t count b l = open-fine e in
          record { stands = opens-hold o; ranges = ((few, omega arith, rw (sym (opens-money o)) (money-small (opens-hold o).accounts)), tt) }
      go (Err r) e = record { stands = tt; ranges = ((few, code-small r), tt) }

  given-kept : (count k : ℕ) (t : Tables) (b : ℤ) (l : ℕ) → Giving count k t → Giving count k (given t k b l)
  given-kept count k t b l g = record {
    few = g.few;
    next = g.next;
    sized = record { long = simp length-set g.sized.long; broad = g.sized.broad; deep = g.sized.deep };
  }

  given_by : (count k : ℕ) (t : Tables) → Giving count k t → (b : Bool) → ltb (k + 1) count ≡ b
      → Kept (cond b (quiet (G.Members count (k + 1)) t) (open_does n count t))
  given_by count k t g true e = record { stands = record { few = g.few; next = ltb-true (k + 1) count e; sized = g.sized }; ranges = tt }
  given_by count k t g false e = open_kept count t g.few

  member-by : (count k : ℕ) (t u : Tables) → Giving count k u → (b : Bool) → Kept (cond b (given_does n count k u) (stops n R.Line t))
  member-by count k t u g true = given_by count k u g (ltb (k + 1) count) refl
  member-by count k t u g false = stops-kept R.Line t

  member-kept : (count k : ℕ) (t : Tables) → Giving count k t → (e : Entry) → Kept (member_does n count k t e)
  member-kept count k t g (opening (member m b l)) = member-by count k t (given t k b l) (given-kept count k t b l g) (eqb m (k + 1))
  member-kept count k t g (opening (house m)) = stops-kept R.Line t
  member-kept count k t g (day d) = stops-kept R.Line t
  member-kept count k t g end = stops-kept R.Line t
  member-kept count k t g bad = stops-kept R.Line t

  -- ---- the day

  module _ (t : Tables) (h : Holds t) (narrow : (i : ℕ) → get_or t.counters i 0 ≤ last_number) where
    stray-kept : Kept (strays n t)
    stray-kept = record { stands = h; ranges = ((few, code-small R.Line), tt) }

    day-kept : (e : Entry) → Kept (day_does n t e)
    day-kept (opening o) = stray-kept
    day-kept (day d) = let k = call_kept n few t h narrow d in record { stands = k.holds; ranges = (k.ranges, tt) }
    day-kept end = record { stands = record { told = omega arith; holds = h }; ranges = tt }
    day-kept bad = stray-kept

  -- ---- any line
  pub does-kept : (g : Stage) (t : Tables) (e : Entry) → ((i : ℕ) → get_or t.counters i 0 ≤ last_number) → StageStands g t → Kept (does_of n g t e)
  does-kept G.House t e w s = house-kept t s e
  does-kept (G.Members count k) t e w s = member-kept count k t s e
  does-kept G.Day t e w s = day-kept t s w e
  does-kept (G.Ending k) t e w s = record { stands = s; ranges = tt }
  does-kept G.Over t e w s = record { stands = s; ranges = tt }

-- ---- the lines at `end`
module _ (t : Tables) (h : Holds t) where
  pub end-ranges : (k : ℕ) → Ranges (end_at t k)
  end-ranges k = go (ltb k (count_of t.counters)) refl
    where
      go : (b : Bool) → ltb k (count_of t.counters) ≡ b → Ranges (cond b (balance_says t k) (S.Money (money_of t.accounts)))
      go true e =
          let l = ltb-true k (count_of t.counters) e in
          (omega (arith, h.counters.few), balance-small h.accounts k (omega (arith, h.counters.few)), omega (arith, few-wait h k))
      go false e = money-small h.accounts
