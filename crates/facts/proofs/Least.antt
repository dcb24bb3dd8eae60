-- The first so many elements of a list that may be shorter, and what is behind them.
-- Assumes nothing.
use mathlib.Core.Path.{◌≡◌, ap}
use Prim.Native.Nat.{ℕ, ◌*◌, ◌≤◌, min}
use native.Mathlib.Omega.{arith}
use native.Mathlib.Nat.{mul-le-mul_left}
use native.Mathlib.Decide.{dec_le}
use mathlib.Core.List.{List}
use lib.ListN.{length, take, drop, drop_of_length-le}
use lib.Seq.{take_all, take-length, drop-length}

module _ (k : ℕ) (l : List ℕ) where
  both : (take (min k (length l)) l ≡ take k l) × (drop (min k (length l)) l ≡ drop k l)
  both = go (dec_le k (length l))
    where
      go : Dec (k ≤ length l) → (take (min k (length l)) l ≡ take k l) × (drop (min k (length l)) l ≡ drop k l)
      go (yes h) = let e : min k (length l) ≡ k = omega arith in (ap (λ (n : ℕ). take n l) e, ap (λ (n : ℕ). drop n l) e)
      go (no h) =
          let e : min k (length l) ≡ length l = omega arith in
          (rw (e, take-length, take_all k l (omega arith)), rw (e, drop-length, drop_of_length-le l {i = k} (omega arith)))

  pub take_least : take (min k (length l)) l ≡ take k l
  take_least = both.0

  pub drop_least : drop (min k (length l)) l ≡ drop k l
  drop_least = both.1

-- so many times the least
pub mul_least : (w m n : ℕ) → w * min m n ≡ min (w * m) (w * n)
mul_least w m n = go (dec_le m n)
  where
    go : Dec (m ≤ n) → w * min m n ≡ min (w * m) (w * n)
    go (yes h) = let e : min m n ≡ m = omega arith in omega (arith, mul-le-mul_left w h, ap (λ (k : ℕ). w * k) e)
    go (no h) =
        let g : n ≤ m = omega arith in
        let e : min m n ≡ n = omega arith in
        omega (arith, mul-le-mul_left w g, ap (λ (k : ℕ). w * k) e)
