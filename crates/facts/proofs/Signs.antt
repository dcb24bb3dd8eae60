-- Two's complement at 32 bits: what the casts and the complements of the code make, by the sign, and that a number and its bits
-- give each other back.
-- Assumes nothing.
use mathlib.Core.Path.{◌≡◌, ap}
use mathlib.Core.Bool.{true}
use Prim.Native.Nat.{ℕ, suc, ◌-◌, ◌^◌, ◌<◌, ◌≤◌}
use native.Mathlib.Omega.{arith}
use native.Mathlib.Decide.{dec_le}
use borrow.Author.Tests.{lt-ltb, le-ltb}
use lib.IntN.{ℤ, pos, negsuc}
use lib.Signed.{lt_z}
use mir.Syntax.{w32}
use mir.Val.{SFits, to_z, of_z}
use mir.Facts.{to_z-of_z}
use Rattle.facts.specs.BigEndian.{signed, unsigned}

-- from bits to a number: below 2 ^ 31 they are it
not_negative : (x : ℕ) → x < 2 ^ 31 → signed x ≡ pos x
not_negative x h = simp (lt-ltb x (2 ^ 31) h)

-- and back: a number and its bits
pub signed_back : (z : ℤ) → SFits w32 z → signed (unsigned z) ≡ z
signed_back (pos n) f = let h : n < 2 ^ 31 = f.sfits in not_negative n h
signed_back (negsuc n) f =
    let h : n < 2 ^ 31 = f.sfits in
    let e : 2 ^ 32 - suc (2 ^ 32 - suc n) ≡ n = omega arith in
    simp (le-ltb (2 ^ 32 - suc n) (2 ^ 31) (omega arith), e)

pub unsigned_back : (x : ℕ) → x < 2 ^ 32 → unsigned (signed x) ≡ x
unsigned_back x h = go (dec_le (2 ^ 31) x)
  where
    go : Dec (2 ^ 31 ≤ x) → unsigned (signed x) ≡ x
    go (yes p) =
        let e : 2 ^ 32 - suc (2 ^ 32 - suc x) ≡ x = omega arith in
        simp (le-ltb x (2 ^ 31) p) e
    go (no p) = ap unsigned (not_negative x (omega arith))

-- the test of the sign, as the code reads the number
below : (z : ℤ) → SFits w32 z → lt_z (to_z w32 (of_z w32 z)) (pos 0) ≡ true → lt_z z (pos 0) ≡ true
below z f t = rw (to_z-of_z {w = w32} {z = z} f) at t
