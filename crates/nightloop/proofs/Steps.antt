-- Each step takes a session of the night to one.
use mathlib.Core.Path.{◌≡◌, refl, sym, ap, ◌∙◌, subst}
use mathlib.Core.Bool.{Bool, true, false, cond, false≢true}
use mathlib.Core.List.{List, [], ◌++◌, append-nil, append_assoc}
use mathlib.Core.Logic.{◌⊎◌, inl, inr}
use Prim.Native.Nat.{ℕ, ◌+◌, ◌≤◌}
use native.Mathlib.Omega.{arith}
use borrow.Author.Tests.{leb-true}
use lib.Dec.{ltb}
use lib.ListN.{length, take, drop}
use lib.Seq.{length-take-le}
use Rattle.std.specs.Prelude.{Option, Some, None, IfSome, Result, Ok, Err}
use Rattle.std.specs.Io.{ReadsAtMost}
use Rattle.std.specs.Result.{result_ok}
use Rattle.sheet.specs.Room.{least_room, has_room}
use Rattle.tables.specs.Layout.{Tables}
use Rattle.desk.specs.declared.State.{State}
use Rattle.desk.specs.declared.Turn.{Turn}
use Rattle.night.specs.Stages.{is_over}
use Rattle.night.specs.Stands.{Sized}
use Rattle.desk.specs.Sheet.{morning}
use Rattle.desk.proofs.Morning.{morning-sized}
use Rattle.session.specs.Stops.{Stops}
use Rattle.desk.specs.Desk.{Desk}
use Rattle.session.specs.Turns.{turn_of, goes_on, close_turn, closes_on}
use Rattle.desk.specs.States.{desk_of, Fit}
use Rattle.session.specs.Feeding.{dawn}
use Rattle.session.specs.Session.{Session, begun, hands, feeds, writes, closes}
use Rattle.session.proofs.Theorem.{session-sheet, feed-whole}
use Rattle.nightloop.specs.declared.Next.{Next}
use Rattle.nightloop.specs.declared.Next.TheVariants as N
use Rattle.nightloop.specs.declared.Run.{Run}
use Rattle.nightloop.specs.Steps.{out_bytes, rest_in, desk_in, CanGo, run_of, taken_as, fed_next, closed_next, flushed_of, Wrote, AteTo, Ate, ClosedTo, Closed, Open, Shut, Finished, SoFar}

-- ---- before the first step

-- where the program begins
abbrev first : Run
first = run_of N.Read 0 dawn

-- with tables that are long enough a step can be taken there
ready-first : {chunk : List ℕ} {t : Tables} → Sized t → CanGo first chunk t
ready-first z = record {
  fit = record { few = omega arith; room = omega arith; held = omega arith; stands = z };
  clear = refl;
  eaten = omega arith;
  read = omega arith;
}

-- nothing was read, and nothing written, whatever the chunk, the line buffer and the output hold
pub stood-first : {chunk buf out : List ℕ} {t : Tables} → t ≡ morning.tables → SoFar N.Read first chunk buf t out
stood-first {chunk} {buf} {out = out} {t = t} e = (
  record {
    read = [];
    said = [];
    session = λ later. subst (λ (u : Tables). Session later [] (desk_in first chunk buf u out) later) (sym e) begun;
    ready = ready-first (subst Sized (sym e) morning-sized);
  },
  refl,
)

-- ---- a chunk is read

-- a read puts no more bytes into the chunk than it holds
pub read-within : {E : Type 0} (got : Result ℕ E) (chunk : List ℕ) → ReadsAtMost got chunk → IfSome (result_ok got) (λ k. k ≤ length chunk)
read-within (Ok n) chunk h = h.0
read-within (Err e) chunk h = tt

module _ {chunk buf out : List ℕ} {t : Tables} (chunk₁ : List ℕ) {r : Run} where
  handed-on : (n : ℕ) → n ≤ length chunk₁ → SoFar N.Read r chunk buf t out → Open (run_of N.Eat n r.state) chunk₁ buf t out
  handed-on n l (o, e) =
      let c : List ℕ = take n chunk₁ in
      record {
        read = o.read ++ c;
        said = o.said;
        session = λ later. subst (λ (f : List ℕ). Session f o.said (desk_in (run_of N.Eat n r.state) chunk₁ buf t out) later)
            (sym (append_assoc o.read c later)) (hands c later (o.session (c ++ later)) e);
        ready = record { fit = o.ready.fit; clear = o.ready.clear; eaten = omega arith; read = l };
      }

  input-ends : SoFar N.Read r chunk buf t out → SoFar N.Close (run_of N.Close 0 r.state) chunk₁ buf t out
  input-ends (o, e) = (
    record {
      read = o.read;
      said = o.said;
      session = subst (λ (q : List ℕ). Session o.read o.said (desk_of q r.state t out buf) []) e
          (subst (λ (f : List ℕ). Session f o.said (desk_in r chunk buf t out) []) (append-nil o.read) (o.session []));
      ready = record { fit = o.ready.fit; clear = o.ready.clear; eaten = omega arith; read = omega arith };
    },
    refl,
  )

  -- whatever the read answered
  pub stood-taken : (got : Option ℕ) → IfSome got (λ k. k ≤ length chunk₁) → SoFar N.Read r chunk buf t out
      → let x = taken_as got r.state in SoFar x.next x chunk₁ buf t out
  stood-taken (Some n) l s = go (ltb 0 n)
    where
      go : (b : Bool) → let x = cond b (run_of N.Eat n r.state) (run_of N.Close 0 r.state) in SoFar x.next x chunk₁ buf t out
      go true = handed-on n l s
      go false = input-ends s
  stood-taken None l s = tt

-- ---- bytes are fed, and what they say is written out

ready-flushed : {q : State} {u : Tables} {m : ℕ} (n : Next) (at got : ℕ) (chunk : List ℕ) → Fit q u m → at ≤ got → got ≤ length chunk
    → CanGo (record { next = n; at = at; got = got; state = flushed_of q }) chunk u
ready-flushed n at got chunk f l g = record { fit = record { few = f.few; room = omega arith; held = f.held; stands = f.stands }; clear = refl; eaten = l; read = g }

-- where a fed chunk leads: with room left all is eaten, or the night is over
fed-leads : (d : Desk) (rest : List ℕ) (q : State) (u : Tables) (out buf : List ℕ) → Stops turn_of (goes_on (length out)) d (desk_of rest q u out buf)
    → length out ≡ out_bytes → q.used ≤ length out
    → AteTo (fed_next q) rest q.stage
fed-leads d rest q u out buf s l m = go (is_over q.stage) (has_room out_bytes q.used) refl refl
  where
    eaten : has_room out_bytes q.used ≡ true → (rest ≡ []) ⊎ (is_over q.stage ≡ true)
    eaten f = (feed-whole (length out) s (omega (arith, leb-true (q.used + least_room) out_bytes f, length-take-le q.used out m))).1

    left : (rest ≡ []) ⊎ (is_over q.stage ≡ true) → is_over q.stage ≡ false → rest ≡ []
    left (inl e) f = e
    left (inr o) f = absurd (false≢true (sym f ∙ o))

    go : (o h : Bool) → is_over q.stage ≡ o → has_room out_bytes q.used ≡ h → AteTo (cond o N.Done (cond h N.Read N.Eat)) rest q.stage
    go true h e f = e
    go false true e f = left (eaten f) e
    go false false e f = tt

comes : {n k m : Next} → (n ≡ k) ⊎ (n ≡ N.Failed) → k ≡ m → (n ≡ m) ⊎ (n ≡ N.Failed)
comes (inl e) f = inl (e ∙ f)
comes (inr e) f = inr e

ate-to : (n : Next) (q : State) (rest : List ℕ) → (n ≡ fed_next q) ⊎ (n ≡ N.Failed) → AteTo (fed_next q) rest q.stage → AteTo n rest q.stage
ate-to n q rest (inl e) a = subst (λ (k : Next). AteTo k rest q.stage) (sym e) a
ate-to n q rest (inr e) a = subst (λ (k : Next). AteTo k rest q.stage) (sym e) tt

module _ {r : Run} {chunk : List ℕ} {t u : Tables} (buf out buf₁ out₁ : List ℕ) (ok : CanGo r chunk t) (long : length out ≡ out_bytes) (same : length out₁ ≡ length out) where
  -- a chunk was fed,
  pub fed-ate : (q : Turn) {k : Next} {x : Run}
      → Stops turn_of (goes_on (length out)) (desk_in r chunk buf t out) (desk_of (drop q.at (take r.got chunk)) q.state u out₁ buf₁)
      → Fit q.state u (length out) → q.at ≤ length (take r.got chunk) → k ≡ fed_next q.state → Wrote (record { next = k; at = q.at; got = r.got; state = q.state }) x
      → Ate (desk_in r chunk buf t out) x chunk buf₁ u out₁
  fed-ate q s f l e w =
      let rest : List ℕ = drop q.at (take r.got chunk) in
      let g : AteTo (fed_next q.state) rest q.state.stage =
      fed-leads (desk_in r chunk buf t out) rest q.state u out₁ buf₁ (rw same s) (same ∙ long) (omega (arith, f.room)) in
      subst (λ (z : Run). Ate (desk_in r chunk buf t out) z chunk buf₁ u out₁) (sym w.is) (record {
        said = take q.state.used out₁;
        session = λ file v later h. writes (feeds (length out) (desk_of rest q.state u out₁ buf₁) h s);
        ready = ready-flushed w.next q.at r.got chunk f (omega (arith, length-take-le r.got chunk ok.read)) ok.read;
        leads = ate-to w.next q.state rest (comes w.comes e) g;
      })

-- ---- from session to session

module _ {chunk buf out : List ℕ} {t : Tables} {r : Run} (o : Open r chunk buf t out) {x : Run} {chunk₁ buf₁ out₁ : List ℕ} {u : Tables} where
  fed-open : Ate (desk_in r chunk buf t out) x chunk₁ buf₁ u out₁ → Open x chunk₁ buf₁ u out₁
  fed-open a = record {
    read = o.read;
    said = o.said ++ a.said;
    session = λ later. a.session (o.read ++ later) o.said later (o.session later);
    ready = a.ready;
  }

-- a session that is over, with all written out, has written the sheet
finished : {r : Run} {chunk buf out : List ℕ} {t : Tables} → Shut r chunk buf t out → is_over r.state.stage ≡ true → Finished r chunk buf t out
finished {r} {out = out} s o = record {
  read = s.read;
  said = s.said;
  session = s.session;
  sheet = sym (append-nil s.said) ∙ ap (λ (k : ℕ). s.said ++ take k out) (sym s.ready.clear) ∙ session-sheet s.session o;
}

shut : {r : Run} {chunk buf out : List ℕ} {t : Tables} → Open r chunk buf t out → Shut r chunk buf t out
shut {r} {chunk} {buf} {out} {t} o = record {
  read = o.read;
  said = o.said;
  session = subst (λ (f : List ℕ). Session f o.said (desk_in r chunk buf t out) []) (append-nil o.read) (o.session []);
  ready = o.ready;
}

pub stood-ate : {chunk buf out chunk₁ buf₁ out₁ : List ℕ} {t u : Tables} {r x : Run} → SoFar N.Eat r chunk buf t out → Ate (desk_in r chunk buf t out) x chunk₁ buf₁ u out₁
    → SoFar x.next x chunk₁ buf₁ u out₁
stood-ate {chunk₁ = chunk₁} {buf₁ = buf₁} {out₁ = out₁} {u = u} {x = x} s a = go x.next a.leads
  where
    o : Open x chunk₁ buf₁ u out₁
    o = fed-open s a

    go : (n : Next) → AteTo n (rest_in x chunk₁) x.state.stage → SoFar n x chunk₁ buf₁ u out₁
    go N.Read e = (o, e)
    go N.Eat e = o
    go N.Close e = absurd e
    go N.Done e = finished (shut o) e
    go N.Failed e = tt

-- ---- the night is closed

closed-to : (n : Next) (q : State) → (n ≡ closed_next q) ⊎ (n ≡ N.Failed) → ClosedTo n q.stage
closed-to n q (inl e) = subst (λ (k : Next). ClosedTo k q.stage) (sym e) (go (is_over q.stage) refl)
  where
    go : (o : Bool) → is_over q.stage ≡ o → ClosedTo (cond o N.Done N.Close) q.stage
    go true f = f
    go false f = tt
closed-to n q (inr e) = subst (λ (k : Next). ClosedTo k q.stage) (sym e) tt

-- the end of the input was fed
pub fed-closed : {r : Run} {chunk : List ℕ} {t u : Tables} (buf buf₁ out out₁ : List ℕ) → CanGo r chunk t → (q : State) {k : Next} {x : Run}
    → Stops close_turn (closes_on (length out)) (desk_of [] r.state t out buf) (desk_of [] q u out₁ buf₁) → Fit q u (length out)
    → k ≡ closed_next q → Wrote (record { next = k; at = r.at; got = r.got; state = q }) x → Closed (desk_in r chunk buf t out) x chunk buf₁ u out₁
fed-closed {r} {chunk} {t} {u} buf buf₁ out out₁ ok q s f e w = subst (λ (z : Run). Closed (desk_in r chunk buf t out) z chunk buf₁ u out₁) (sym w.is) (record {
  said = take q.used out₁;
  session = λ file v p h.
      let a : Session file v (desk_of [] r.state t out buf) [] = subst (λ (l : List ℕ). Session file v (desk_of l r.state t out buf) []) p h in
      let b : Session file (v ++ take q.used out₁) (desk_of [] (flushed_of q) u out₁ buf₁) [] = writes (closes (length out) (desk_of [] q u out₁ buf₁) a refl s) in
      subst (λ (l : List ℕ). Session file (v ++ take q.used out₁) (desk_of l (flushed_of q) u out₁ buf₁) []) (sym p) b;
  ready = ready-flushed w.next r.at r.got chunk f ok.eaten ok.read;
  rest = refl;
  leads = closed-to w.next q (comes w.comes e);
})

pub stood-closed : {chunk buf out chunk₁ buf₁ out₁ : List ℕ} {t u : Tables} {r x : Run} → SoFar N.Close r chunk buf t out → Closed (desk_in r chunk buf t out) x chunk₁ buf₁ u out₁
    → SoFar x.next x chunk₁ buf₁ u out₁
stood-closed {chunk₁ = chunk₁} {buf₁ = buf₁} {out₁ = out₁} {u = u} {x = x} (s, q) a = go x.next a.leads
  where
    o : Shut x chunk₁ buf₁ u out₁
    o = record { read = s.read; said = s.said ++ a.said; session = a.session s.read s.said q s.session; ready = a.ready }

    go : (n : Next) → ClosedTo n x.state.stage → SoFar n x chunk₁ buf₁ u out₁
    go N.Read e = absurd e
    go N.Eat e = absurd e
    go N.Close e = (o, a.rest ∙ q)
    go N.Done e = finished o e
    go N.Failed e = tt
