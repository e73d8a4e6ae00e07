-- From a text that was written behind another, and into the lent rest, to the whole output.
use native.Mathlib.Omega.{arith}
use mathlib.Core.Path.{◌≡◌, refl, ap}
use mathlib.Core.Bool.{Bool, true, false, cond}
use mathlib.Core.List.{List, ◌++◌, append-nil}
use Prim.Native.Nat.{ℕ, ◌+◌, ◌-◌, ◌≤◌, ◌<◌}
use lib.Dec.{ltb}
use lib.ListN.{length, take, drop, length-append, length-drop, drop_of_length-le}
use lib.Seq.{take_at, length-take-le, sets-eq, sets}
use borrow.Author.Tests.{lt-ltb, le-ltb, leb-true, leb-false}
use borrow.Rule.Slice.PartMut.{put_mid}
use Rattle.std.proofs.Common.{drop-drop, append_assoc}
use Rattle.numbers.proofs.Reading.{rest_all}
use Rattle.sheet.specs.declared.Says.{Says}
use Rattle.sheet.specs.Lines.{text_of}
use Rattle.std.specs.Prelude.{Ok}
use Rattle.sheet.specs.Room.{least_room, has_room, no_room, put_of, put_code, after_put, Ranges}
use Rattle.sheet.proofs.Ranges.{text-le}

-- there is room in the rest
pub rest-room : (out : List ℕ) (at : ℕ) → at + least_room ≤ length out → least_room ≤ length (take (length out - at) (drop at out))
rest-room out at h = rw (rest_all at out) (omega (arith, length-drop at out))

-- a text written into the rest is written into the whole
pub rest_put : (out : List ℕ) (at : ℕ) (t text : List ℕ) → at + length text ≤ length out → t ≡ sets (take (length out - at) (drop at out)) 0 text
    → put_mid at (length out - at) out t ≡ sets out at text
rest_put out at t text g b =
    let l : 0 + length text ≤ length (drop at out) = omega (arith, length-drop at out) in
    let e : length (drop at out) ≤ length out - at = omega (arith, length-drop at out) in
    let z : at + (0 + length text) ≡ at + length text = omega arith in
    rw (
      b,
      rest_all at out,
      sets-eq text (drop at out) 0 l,
      sets-eq text out at g,
      drop_of_length-le (drop at out) e,
      append-nil,
      drop-drop (0 + length text) at out,
      z,
      append_assoc (take at out) text (drop (at + length text) out),
    )

module _ (out : List ℕ) (at : ℕ) (h : at ≤ length out) where
  -- the answer where there is no room,
  pub full_put : (text : List ℕ) → has_room (length out) at ≡ false → (no_room ≡ put_of (length out - at) text) × (out ≡ after_put (length out - at) out at text)
  full_put text e =
      let l : length out - at < least_room = omega (arith, leb-false (at + least_room) (length out) e) in
      rw (lt-ltb (length out - at) least_room l) (refl, refl)

  -- and where there is
  pub room-put : (text out₁ : List ℕ) (e : ℕ) → has_room (length out) at ≡ true → e ≡ at + length text → out₁ ≡ sets out at text
      → (Ok (e - at) ≡ put_of (length out - at) text) × (out₁ ≡ after_put (length out - at) out at text)
  room-put text out₁ e r a b =
      let l : least_room ≤ length out - at = omega (arith, leb-true (at + least_room) (length out) r) in
      let n : e - at ≡ length text = omega arith in
      rw (le-ltb (length out - at) least_room l) (ap Ok n, b)

-- the code is 13 exactly where less than 80 bytes are left, and else 0
pub put-code : (room : ℕ) (text : List ℕ) → put_code (put_of room text) ≡ cond (ltb room least_room) 13 0
put-code room text = go (ltb room least_room)
  where
    go : (b : Bool) → put_code (cond b no_room (Ok (length text))) ≡ cond b 13 0
    go true = refl
    go false = refl

-- without room the output is as it was
pub full-after : (out text : List ℕ) (at room : ℕ) → room < least_room → after_put room out at text ≡ out
full-after out text at room h = rw (lt-ltb room least_room h)

-- a line that was written where there is room stands behind what was used
module _ (s : Says) (g : Ranges s) (out : List ℕ) (at : ℕ) (h : at + least_room ≤ length out) where
  pub wrote-within : at + length (text_of s) ≤ length out
  wrote-within = omega (arith, text-le s g)

  pub wrote-used : take (at + length (text_of s)) (sets out at (text_of s)) ≡ take at out ++ text_of s
  wrote-used =
      let t : List ℕ = text_of s in
      let n : length (take at out) ≡ at = length-take-le at out (omega arith) in
      rw (sets-eq t out at wrote-within)
      (take_at (take at out ++ t) (drop (at + length t) out) (at + length t) (simp length-append (omega arith)))
