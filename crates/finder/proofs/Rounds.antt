-- Round by round, until none is short: what is in then is the largest set of whichever house stood so before.
use mathlib.Core.Bool.{Bool, true, false, cond}
use mathlib.Core.List.{List}
use Prim.Native.Nat.{ℕ, ◌+◌, ◌≤◌, ◌<◌}
use native.Mathlib.Omega.{arith}
use lib.IntN.{ℤ}
use Rattle.rule.specs.House.{House, LargestSet}
use Rattle.rule.proofs.Find.{around-done}
use Rattle.finder.specs.Tops.{counts_of, height}
use Rattle.finder.specs.Finder.{InRange, Stood, Ready, Keeps, FoundSet, Went, Rounded}
use Rattle.finder.proofs.Off.{else-covered}

-- the finder can go on from whatever it has kept
pub ready_on : {n used : ℕ} {pays : List ℕ} {lines xs ys : List ℤ} {ts us : List ℕ}
    → Ready n used pays xs lines ts → InRange used pays ys lines us → Keeps n used pays lines xs ts ys us → Ready n used pays ys lines us
ready_on d r k = record { ranges = r; house = d.house; stood = k d.house d.stood }

-- ---- the rounds

-- a round that took something off lowered the sum of the tops, and any other is the last
pub search-falls : {b : Bool} {n used : ℕ} {pays : List ℕ} {lines ys zs : List ℤ} {us vs : List ℕ} → Rounded b n used n pays lines ys zs us vs
    → height vs + cond b 1 0 < height us + 1
search-falls {b} {n} {lines} {zs} {us} {vs} d = go b d.went d.low
  where
    go : (b : Bool) → Went b n zs lines us vs → height vs ≤ height us → height vs + cond b 1 0 < height us + 1
    go true w l = omega arith
    go false w l = omega arith

-- ---- the end

-- of whichever house stood so before, the payments below the tops are the largest set
pub finds-largest : {n used : ℕ} {H : House} {pays : List ℕ} {lines xs ys : List ℤ} {ts us : List ℕ}
    → FoundSet n used pays lines xs ys ts us → Stood n used H pays xs lines ts → LargestSet n H (counts_of pays us)
finds-largest {H} f st = let s = f.keeps H st in around-done s.around (λ i h. else-covered s i h (f.none.none i h))
