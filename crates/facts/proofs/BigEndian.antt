-- Numbers of any width: what is written reads back, and what is read writes back. Proved once, for every width.
-- Assumes nothing.
use mathlib.Core.Path.{◌≡◌, refl, sym, ◌∙◌, ap}
use mathlib.Core.List.{List, [], ◌∷◌, ◌++◌}
use Prim.Native.Nat.{ℕ, zero, suc, ◌+◌, ◌*◌, ◌/◌, ◌%◌, ◌^◌, ◌≤◌, ◌<◌}
use native.Mathlib.Nat.{pow-succ', add_comm, suc-add, add-mul, mul_assoc, mod-eq_of_lt, mul-div_cancel, div-div-eq-div-mul}
use native.Mathlib.Omega.{arith}
use lib.Pow.{pow-add}
use lib.Arith.{mod-mul, digits_lt, digits_div, digits_mod}
use lib.Dec.{lit<}
use lib.ListN.{length, get_or, take, drop, length-drop, take-append-drop}
use lib.Seq.{length-take-le, take-append-le, drop-append-le}
use borrow.Author.Tests.{le-leb, lt-leb}
use Rattle.facts.specs.BigEndian.{number, number_from, number_at, digits}

-- every element is a byte, as what owning a `&[u8]` tells
abbrev pub Bytes : List ℕ → Type 0
Bytes xs = (i : ℕ) → get_or xs i 0 < 256

pub some : (w : ℕ) → 0 < 256 ^ w
some zero = lit< tt
some (suc w) = omega (arith, pow-succ' 256 w, some w)

-- a number written in so many bytes has so many
pub length_digits : (w n : ℕ) → length (digits w n) ≡ w
length_digits zero n = refl
length_digits (suc w) n = ap suc (length_digits w n)

-- what stands before goes up by the width
number-from : (h : ℕ) (xs : List ℕ) → number_from h xs ≡ h * 256 ^ length xs + number xs
number-from h [] = omega arith
number-from h (x ∷ xs) =
    let c = 256 ^ length xs in
    let up = ap (λ (k : ℕ). h * k) (pow-succ' 256 (length xs)) in
    omega (arith, number-from (h * 256 + x) xs, number-from (0 * 256 + x) xs, add-mul (h * 256) x c, mul_assoc h 256 c)

-- a number of w bytes is below 256 ^ w
pub number_below : (xs : List ℕ) → Bytes xs → number xs < 256 ^ length xs
number_below [] b = lit< tt
number_below (x ∷ xs) b =
    rw (pow-succ' 256 (length xs), number-from (0 + x) xs) (digits_lt (omega (arith, b 0)) (number_below xs (λ i. b (suc i))))

-- a number at a place, where its bytes are all there, and where they are not
module _ (width : ℕ) (bytes : List ℕ) (at : ℕ) where
  pub number_there : at + width ≤ length bytes → number_at width bytes at ≡ number (take width (drop at bytes))
  unfolding number_at
  number_there h = rw (le-leb (at + width) (length bytes) h)

  pub number_past : length bytes < at + width → number_at width bytes at ≡ 0
  unfolding number_at
  number_past h = rw (lt-leb (at + width) (length bytes) h)

-- it stands in the bytes before their end, whatever comes behind
pub number_front : (width : ℕ) (bytes : List ℕ) (at n : ℕ) → at + width ≤ n → n ≤ length bytes
    → number_at width (take n bytes) at ≡ number (take width (drop at bytes))
number_front width bytes at n h g =
    let p : List ℕ = take n bytes in
    let long : length p ≡ n = length-take-le n bytes g in
    let same : take width (drop at (p ++ drop n bytes)) ≡ take width (drop at p) =
    ap (take width) (drop-append-le at p (drop n bytes) (omega arith))
    ∙ take-append-le width (drop at p) (drop n bytes) (omega (arith, length-drop at p)) in
    number_there width p at (omega arith) ∙ ap number (rw (take-append-drop n bytes) at (sym same))

-- what is written reads back, at every width
pub reads_back : (w h n : ℕ) → number_from h (digits w n) ≡ h * 256 ^ w + n % 256 ^ w
reads_back zero h n = omega arith
reads_back (suc w) h n =
    let c = 256 ^ w in
    let d = n / c % 256 in
    let up = ap (λ (k : ℕ). h * k + n % k) (pow-succ' 256 w) in
    omega (arith, reads_back w (h * 256 + d) n, add-mul (h * 256) d c, mul_assoc h 256 c, mod-mul n {m = 256} {c = c} (lit< tt) (some w))

-- what is read writes back, at every width
pub writes_back : (h : ℕ) (xs : List ℕ) → Bytes xs → digits (length xs) (number_from h xs) ≡ xs
writes_back h [] b = refl
writes_back h (x ∷ xs) b =
    let rest : Bytes xs = λ i. b (suc i) in
    let first : number_from (h * 256 + x) xs / 256 ^ length xs % 256 ≡ x =
    rw (number-from (h * 256 + x) xs, digits_div (h * 256 + x) (number_below xs rest)) (digits_mod h (b 0)) in
    λ i. first i ∷ writes_back (h * 256 + x) xs rest i

-- one below 256 ^ w is the number of its w bytes
pub number_digits : (w n : ℕ) → n < 256 ^ w → number (digits w n) ≡ n
number_digits w n h = reads_back w 0 n ∙ omega (arith, mod-eq_of_lt h)

-- a number by its first bytes and those behind them
pub number_split : (a b : List ℕ) → number (a ++ b) ≡ number a * 256 ^ length b + number b
number_split a b = from_split 0 a ∙ number-from (number a) b
  where
    from_split : (h : ℕ) (a : List ℕ) → number_from h (a ++ b) ≡ number_from (number_from h a) b
    from_split h [] = refl
    from_split h (x ∷ a) = from_split (h * 256 + x) a

-- the first bytes of a number that ends in so many zero bytes
pub high_digits : (n m a : ℕ) → take n (digits (n + m) (a * 256 ^ m)) ≡ digits n a
high_digits zero m a = refl
high_digits (suc n) m a =
    let up : a * 256 ^ m / 256 ^ (n + m) ≡ a / 256 ^ n =
    ap (λ (k : ℕ). a * 256 ^ m / k) (ap (λ (k : ℕ). 256 ^ k) (add_comm n m) ∙ pow-add 256 m n)
    ∙ sym (div-div-eq-div-mul (a * 256 ^ m) (256 ^ m) (256 ^ n))
    ∙ ap (λ (k : ℕ). k / 256 ^ n) (mul-div_cancel a (some m)) in
    rw (suc-add n m) (λ i. up i % 256 ∷ high_digits n m a i)
