-- The laws of `specs/Texts.antt`.
-- Assumes nothing.
use Rattle.std.proofs.Common.{◌≡◌, refl, sym, ap, subst, ◌∙◌, ℕ, suc, zero, ◌+◌, ◌/◌, ◌%◌, ◌^◌, ◌≤◌, ◌<◌, List, [], ◌∷◌, ◌++◌, append_assoc, append-nil, length, take, get_or, cond, arith}
use Rattle.std.proofs.Math.Dec.{ltb}
use Rattle.std.proofs.Math.Nat.{pow-suc, div-lt_iff_lt-mul, zero-lt-suc}
use Rattle.std.proofs.lemmas.Bool.{lt-ltb, le-ltb}
use Rattle.std.proofs.lemmas.List.{take_more}
use Rattle.pen.specs.Texts.{space, decimal_in, decimal, named, spaced}

-- a number below ten is a digit
pub one_digit : (n : ℕ) → n < 10 → (48 + n % 10) ∷ [] ≡ decimal n
unfolding decimal decimal_in
one_digit n h =
    let same : n % 10 ≡ n = omega arith in
    rw (lt-ltb n 10 h, same)

-- the digits of a number are the same, however many more it might have
enough : (k n : ℕ) → n < 10 ^ suc k → decimal_in (suc k) n ≡ decimal_in (suc (suc k)) n
unfolding decimal_in
enough zero n h = rw (lt-ltb n 10 (omega arith))
enough (suc k) n h =
    let tenth : n / 10 < 10 ^ suc k = (div-lt_iff_lt-mul (zero-lt-suc 9)).1 (subst (λ (x : ℕ). n < x) (pow-suc 10 (suc k)) h) in
    ap (λ (l : List ℕ). cond (ltb n 10) ((48 + n) ∷ []) (l ++ (48 + n % 10) ∷ [])) (enough k (n / 10) tenth)

-- another one is the digits of its tenth and then its last one
pub more_digits : (n : ℕ) → 10 ≤ n → n < 10 ^ 20 → decimal (n / 10) ++ (48 + n % 10) ∷ [] ≡ decimal n
unfolding decimal decimal_in
more_digits n h g =
    let tenth : n / 10 < 10 ^ 19 = (div-lt_iff_lt-mul (zero-lt-suc 9)).1 g in
    rw (le-ltb n 10 h) (ap (λ (l : List ℕ). l ++ (48 + n % 10) ∷ []) (sym (enough 18 (n / 10) tenth)))

-- bytes, one behind the other: one more
spaced_append : (a b : List ℕ) → spaced (a ++ b) ≡ spaced a ++ spaced b
unfolding spaced
spaced_append [] b = refl
spaced_append (x ∷ a) b = ap (λ (l : List ℕ). named space x ++ l) (spaced_append a b) ∙ sym (append_assoc (named space x) (spaced a) (spaced b))

pub one_spaced : (bytes : List ℕ) (i : ℕ) → i < length bytes
    → spaced (take i bytes) ++ named space (get_or bytes i 0) ≡ spaced (take (i + 1) bytes)
unfolding spaced
one_spaced bytes i h =
    let one : spaced (get_or bytes i 0 ∷ []) ≡ named space (get_or bytes i 0) = append-nil (named space (get_or bytes i 0)) in
    sym (ap spaced (take_more bytes i 0 h) ∙ spaced_append (take i bytes) (get_or bytes i 0 ∷ []) ∙ ap (λ (l : List ℕ). spaced (take i bytes) ++ l) one)
