-- How long the texts of `specs/Texts.antt` are at the most.
-- Assumes nothing.
use mathlib.Core.Path.{subst}
use Prim.Native.Nat.{ℕ, suc, zero, ◌+◌, ◌*◌, ◌/◌, ◌%◌, ◌^◌, ◌≤◌, ◌<◌}
use native.Mathlib.Omega.{arith}
use native.Mathlib.Decide.{dec_lt}
use native.Mathlib.Nat.{pow-suc, div-lt_iff_lt-mul, zero-lt-suc}
use mathlib.Core.List.{List, [], ◌∷◌, ◌++◌}
use lib.ListN.{length, length-append}
use borrow.Author.Tests.{lt-ltb, le-ltb}
use Rattle.rfc.specs.Lists.{Bytes}
use Rattle.pen.specs.Texts.{space, decimal_in, decimal, spaced}

-- a text has no more than so many characters
pub record Most (text : List ℕ) (n : ℕ) : Type 0 where
  pub most : length text ≤ n

pub word_most : (word : List ℕ) → Most word (length word)
word_most word = record { most = omega arith }

-- two texts, one behind the other
pub both_most : {a b : List ℕ} {m n : ℕ} → Most a m → Most b n → Most (a ++ b) (m + n)
both_most {a} {b} p q = record { most = omega (arith, length-append a b, p.most, q.most) }

-- a number has one digit, or one more than its tenth
digits_in : (k n most : ℕ) → 1 ≤ most → (10 ≤ n → length (decimal_in k (n / 10)) + 1 ≤ most) → length (decimal_in (suc k) n) ≤ most
unfolding decimal_in
digits_in k n most some more = go (dec_lt n 10)
  where
    go : Dec (n < 10) → length (decimal_in (suc k) n) ≤ most
    go (yes h) = rw (lt-ltb n 10 h) some
    go (no h) =
        let ten : 10 ≤ n = omega arith in
        rw (le-ltb n 10 ten, length-append (decimal_in k (n / 10)) ((48 + n % 10) ∷ [])) (more ten)

-- so many below a power of ten
below_in : (k j n : ℕ) → n < 10 ^ suc j → length (decimal_in k n) ≤ suc j
unfolding decimal_in
below_in zero j n h = omega arith
below_in (suc k) zero n h = digits_in k n 1 (omega arith) (λ g. absurd (omega arith))
below_in (suc k) (suc j) n h =
    let tenth : n / 10 < 10 ^ suc j = (div-lt_iff_lt-mul (zero-lt-suc 9)).1 (subst (λ (x : ℕ). n < x) (pow-suc 10 (suc j)) h) in
    digits_in k n (suc (suc j)) (omega arith) (λ g. omega (arith, below_in k j (n / 10) tenth))

pub decimal_below : (j n : ℕ) → n < 10 ^ suc j → Most (decimal n) (suc j)
unfolding decimal
decimal_below j n h = record { most = below_in 20 j n h }

-- twenty, whatever it is
most_in : (k n : ℕ) → length (decimal_in k n) ≤ k
unfolding decimal_in
most_in zero n = omega arith
most_in (suc k) n = digits_in k n (suc k) (omega arith) (λ g. omega (arith, most_in k (n / 10)))

pub decimal_most : (n : ℕ) → Most (decimal n) 20
unfolding decimal
decimal_most n = record { most = most_in 20 n }

-- and from one on no more than it is
small_in : (k n : ℕ) → 1 ≤ n → length (decimal_in k n) ≤ n
unfolding decimal_in
small_in zero n h = omega arith
small_in (suc k) n h = digits_in k n n h (λ g. omega (arith, small_in k (n / 10) (omega arith)))

pub decimal_small : (n : ℕ) → 1 ≤ n → Most (decimal n) n
unfolding decimal
decimal_small n h = record { most = small_in 20 n h }

-- a byte behind a space takes four characters or fewer
pub spaced_most : (bytes : List ℕ) → Bytes bytes → Most (spaced bytes) (4 * length bytes)
unfolding spaced
spaced_most [] b = record { most = omega arith }
spaced_most (x ∷ bytes) b =
    let one = both_most (word_most space) (decimal_below 2 x (omega (arith, b.0))) in
    record { most = omega (arith, (both_most one (spaced_most bytes b.1)).most) }
