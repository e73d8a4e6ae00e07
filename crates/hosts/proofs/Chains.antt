-- Calls on bytes, one after the other, are requests on lists, one after the other.
use mathlib.Core.Path.{◌≡◌, refl, sym, ap, ap₂, ◌∙◌, subst}
use mathlib.Core.List.{List, [], ◌++◌}
use Prim.Native.Nat.{ℕ, ◌+◌}
use Rattle.rule.specs.Day.{Call as Noted}
use Rattle.lent.specs.Bytes.{tables_in}
use Rattle.lent.specs.Stands.{Stands}
use Rattle.days.specs.Days.{Request, after_all, made, Inside}
use Rattle.days.proofs.Joins.{deposits-join, payments-join}
use Rattle.days.proofs.Chains.{after-join, made-join, inside-join}
use Rattle.hosts.specs.Hosts.{Chain, end, next, by_code, notes}
use Rattle.hosts.proofs.Links.{Link, requested, linked}

link-join : {s t u : List ℕ} {cs ds : List Noted} {qs rs : List Request} → Link s t cs qs → Link t u ds rs → Link s u (cs ++ ds) (qs ++ rs)
link-join {s} {t} {u} {cs} {ds} {qs} {rs} a b =
    let m : made (qs ++ rs) (tables_in s) ≡ made qs (tables_in s) ++ made rs (tables_in t) =
    made-join qs rs (tables_in s) ∙ ap (λ T. made qs (tables_in s) ++ made rs T) (sym a.is) in
    record {
      stands = b.stands;
      inside = inside-join qs rs (tables_in s) a.inside (subst (Inside rs) a.is b.inside);
      is = b.is ∙ ap (after_all rs) a.is ∙ sym (after-join qs rs (tables_in s));
      deposits = λ i. rw m (deposits-join (made qs (tables_in s)) (made rs (tables_in t)) i ∙ ap₂ ◌+◌ (a.deposits i) (b.deposits i) ∙ sym (deposits-join cs ds i));
      payments = λ i. rw m (payments-join (made qs (tables_in s)) (made rs (tables_in t)) i ∙ ap₂ ◌++◌ (a.payments i) (b.payments i) ∙ sym (payments-join cs ds i));
    }

-- the requests of a chain
abbrev pub requests : {s t : List ℕ} → Chain s t → List Request
requests end = []
requests (next {q = q} {k = k} c i d) = by_code k (requested q c.counts) ++ requests d

pub chained : {s t : List ℕ} → Stands s → (d : Chain s t) → Link s t (notes d) (requests d)
chained h end = record { stands = h; inside = tt; is = refl; deposits = λ i. refl; payments = λ i. refl }
chained h (next {q = q} {k = k} c i d) = let a = linked h c i in link-join a (chained a.stands d)
