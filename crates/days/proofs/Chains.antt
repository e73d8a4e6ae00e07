-- Requests are the rule's calls that they made, one after the other: from each of them, and from how two stretches join.
use mathlib.Core.Path.{◌≡◌, refl, sym, ap, ◌∙◌, subst}
use mathlib.Core.List.{List, [], ◌∷◌, ◌++◌, append_assoc}
use Prim.Native.Nat.{ℕ, ◌+◌}
use native.Mathlib.Omega.{arith}
use lib.ListN.{length-append}
use Rattle.rule.specs.Kernel.{sum}
use Rattle.rule.specs.Day.{Call, Lived, deposits}
use Rattle.rule.proofs.Ints.{plus_assoc}
use Rattle.rule.proofs.Sums.{sum-add, sum-cong}
use Rattle.tables.specs.Layout.{Tables, members_in, house_in, money_of}
use Rattle.tables.specs.Holds.{Holds}
use Rattle.days.specs.Days.{Request, after, did, after_all, made, Inside}
use Rattle.days.proofs.Links.{Carried, refused-carries, link-carries}
use Rattle.days.proofs.Joins.{deposits-join, payments-join, lived-join}

sum-join : (n : ℕ) (cs ds : List Call) → sum n (deposits (cs ++ ds)) ≡ sum n (deposits cs) + sum n (deposits ds)
sum-join n cs ds = sum-cong n (deposits (cs ++ ds)) (λ i. deposits cs i + deposits ds i) (λ i q. deposits-join cs ds i) ∙ sum-add n (deposits cs) (deposits ds)

-- what the one stretch carries and then the other, both carry
pub carried-join : {T U W : Tables} {cs ds : List Call} → Carried T cs U → Carried U ds W → Carried T (cs ++ ds) W
carried-join {T} {U} {W} {cs} {ds} k m = record {
  stands = m.stands;
  members = m.members ∙ k.members;
  lived = lived-join k.lived (subst (λ n. Lived n (house_in U) ds (house_in W)) k.members m.lived);
  lasts = λ i q. rw (payments-join cs ds i, length-append) (omega (arith, k.lasts i q, m.lasts i (omega (arith, k.members))));
  money = m.money ∙ rw (k.members, k.money, sum-join (members_in T) cs ds)
      (plus_assoc (money_of T.accounts) (sum (members_in T) (deposits cs)) (sum (members_in T) (deposits ds)));
}

-- requests from a state on, inside a day, are the rule's calls that they made
pub chain-carries : {T : Tables} → Holds T → (qs : List Request) → Inside qs T → Carried T (made qs T) (after_all qs T)
chain-carries h [] g = refused-carries h
chain-carries {T = T} h (q ∷ qs) g = let k = link-carries h q g.0 in carried-join k (chain-carries {T = after q T} k.stands qs g.1)

-- ---- two stretches

-- the tables after both,
pub after-join : (qs rs : List Request) (T : Tables) → after_all (qs ++ rs) T ≡ after_all rs (after_all qs T)
after-join [] rs T = refl
after-join (q ∷ qs) rs T = after-join qs rs (after q T)

-- and what they did
pub made-join : (qs rs : List Request) (T : Tables) → made (qs ++ rs) T ≡ made qs T ++ made rs (after_all qs T)
made-join [] rs T = refl
made-join (q ∷ qs) rs T =
    let ds = made rs (after_all qs (after q T)) in
    ap (λ (l : List Call). did q T ++ l) (made-join qs rs (after q T)) ∙ sym (append_assoc (did q T) (made qs (after q T)) ds)

-- both inside a day are one inside it,
pub inside-join : (qs rs : List Request) (T : Tables) → Inside qs T → Inside rs (after_all qs T) → Inside (qs ++ rs) T
inside-join [] rs T g k = k
inside-join (q ∷ qs) rs T g k = (g.0, inside-join qs rs (after q T) g.1 k)

-- and the first of two inside a day is
pub inside-first : (qs rs : List Request) (T : Tables) → Inside (qs ++ rs) T → Inside qs T
inside-first [] rs T g = tt
inside-first (q ∷ qs) rs T g = (g.0, inside-first qs rs (after q T) g.1)
