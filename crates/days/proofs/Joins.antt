-- The calls of two stretches of a day, one after the other: their deposits add up, their payments stand one behind the other, and a house
-- that lives through both lives through all.
use mathlib.Core.Path.{◌≡◌, refl, sym}
use mathlib.Core.List.{List, [], ◌∷◌, ◌++◌, append_assoc}
use Prim.Native.Nat.{ℕ, ◌+◌}
use native.Mathlib.Omega.{arith}
use Rattle.rule.specs.Payment.{payer_of}
use Rattle.rule.specs.Queue.{just}
use Rattle.rule.specs.House.{House, Same}
use Rattle.rule.specs.Day.{Call, deposit, submit, settle, call, Accepts, Lived, done, next, deposits, payments}
use Rattle.rule.proofs.Same.{same-sym, same-trans, position-same, allowed_same}

-- the deposits of both add up,
pub deposits-join : (cs ds : List Call) (i : ℕ) → deposits (cs ++ ds) i ≡ deposits cs i + deposits ds i
deposits-join [] ds i = omega arith
deposits-join (deposit j a ∷ cs) ds i = omega (arith, deposits-join cs ds i)
deposits-join (submit w ∷ cs) ds i = deposits-join cs ds i
deposits-join (settle z ∷ cs) ds i = deposits-join cs ds i

-- the payments of each payer stand one behind the other,
pub payments-join : (cs ds : List Call) (i : ℕ) → payments (cs ++ ds) i ≡ payments cs i ++ payments ds i
payments-join [] ds i = refl
payments-join (deposit j a ∷ cs) ds i = payments-join cs ds i
payments-join (submit w ∷ cs) ds i = rw (payments-join cs ds i) (sym (append_assoc (just (payer_of w) w i) (payments cs i) (payments ds i)))
payments-join (settle z ∷ cs) ds i = payments-join cs ds i

call_same : {n : ℕ} {X Y : House} (c : Call) → Same n X Y → Same n (call n X c) (call n Y c)
call_same (deposit j a) s = record { lines = s.lines; balances = λ i h. rw (s.balances i h); queues = s.queues }
call_same (submit w) s = record { lines = s.lines; balances = s.balances; queues = λ i h. rw (s.queues i h) }
call_same (settle z) s = record { lines = s.lines; balances = position-same s z; queues = λ i h. rw (s.queues i h) }

accepts-same : {n : ℕ} {X Y : House} (c : Call) → Same n X Y → Accepts n X c → Accepts n Y c
accepts-same (deposit j a) s p = tt
accepts-same (submit w) s p = p
accepts-same (settle z) s p = allowed_same s p

-- a house that is the same at the members lives through the same calls,
pub lived-from : {n : ℕ} {X Y Z : House} {cs : List Call} → Same n X Y → Lived n Y cs Z → Lived n X cs Z
lived-from s (done t) = done (same-trans s t)
lived-from s (next {c = c} p t l) = next (accepts-same c (same-sym s) p) (same-trans (call_same c s) t) l

-- and a house that lives through the one and then the other lives through all
pub lived-join : {n : ℕ} {X Y Z : House} {cs ds : List Call} → Lived n X cs Y → Lived n Y ds Z → Lived n X (cs ++ ds) Z
lived-join (done s) m = lived-from s m
lived-join (next p s l) m = next p s (lived-join l m)
