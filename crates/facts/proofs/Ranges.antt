-- A list of ranges gives one answer to all numbers from one to another: a test that antt computes, and the law that uses it.
-- It serves each branch of a function that goes by ranges.
-- Assumes nothing.
use mathlib.Core.Path.{◌≡◌, refl}
use mathlib.Core.Bool.{Bool, true, false, cond, ◌&&◌, ◌||◌, and-false, and-eq-true_iff}
use mathlib.Core.List.{List, [], ◌∷◌}
use mathlib.Core.Option.{Option, none, some}
use Prim.Native.Nat.{ℕ, zero, suc, ◌≤◌, ◌<◌}
use native.Mathlib.Omega.{arith}
use native.Mathlib.Decide.{dec_lt}
use borrow.Author.Tests.{le-leb, lt-leb, leb-true, ltb-true}
use lib.Dec.{leb, ltb}
use Rattle.facts.specs.Ranges.{Row, row, lookup, within}

-- the two tests of a range
pub tests : (low high n : ℕ) → (leb low n && leb n high) ≡ within low high n
unfolding within
tests low high n = refl

-- the one answer from low to high, or none where the rows part them. (The rows that are left are named once: named twice, the work of
-- computing this would double with each row.)
abbrev pub uniform : {A : Type 0} → A → List (Row A) → ℕ → ℕ → Option A
uniform other [] low high = some other
uniform other (row l h answer ∷ rows) low high =
    cond (ltb h low || ltb high l) (uniform other rows low high) (cond (leb l low && leb high h) (some answer) none)

-- a number above a range, below it, and within it
pub above : (l h n : ℕ) → h < n → within l h n ≡ false
unfolding within
above l h n p = simp (lt-leb n h p, and-false)

pub below : (l h n : ℕ) → n < l → within l h n ≡ false
unfolding within
below l h n p = rw (lt-leb l n p)

pub inside : (l h n : ℕ) → l ≤ n → n ≤ h → within l h n ≡ true
unfolding within
inside l h n p q = simp (le-leb l n p, le-leb n h q)

module _ {A : Type 0} (other : A) (low high n : ℕ) (from : low ≤ n) (to : n ≤ high) where
  step : (l h : ℕ) (a answer : A) (rows : List (Row A)) → (uniform other rows low high ≡ some answer → lookup other rows n ≡ answer)
      → (t₁ t₂ t₃ t₄ : Bool) → ltb h low ≡ t₁ → ltb high l ≡ t₂ → leb l low ≡ t₃ → leb high h ≡ t₄
      → cond (t₁ || t₂) (uniform other rows low high) (cond (t₃ && t₄) (some a) none) ≡ some answer
      → cond (within l h n) a (lookup other rows n) ≡ answer
  step l h a answer rows more true t₂ t₃ t₄ p q r s e = rw (above l h n (omega (arith, ltb-true h low p))) (more e)
  step l h a answer rows more false true t₃ t₄ p q r s e = rw (below l h n (omega (arith, ltb-true high l q))) (more e)
  step l h a answer rows more false false true true p q r s e =
      rw (inside l h n (omega (arith, leb-true l low r)) (omega (arith, leb-true high h s))) (cc)
  step l h a answer rows more false false true false p q r s e = cc
  step l h a answer rows more false false false t₄ p q r s e = cc

  -- all numbers from low to high are given the one answer
  pub one_answer : (rows : List (Row A)) (answer : A) → uniform other rows low high ≡ some answer → lookup other rows n ≡ answer
  unfolding lookup
  one_answer [] answer e = cc
  one_answer (row l h a ∷ rows) answer e =
      step l h a answer rows (one_answer rows answer) (ltb h low) (ltb high l) (leb l low) (leb high h) refl refl refl refl e

-- whether every answer is below a number
abbrev pub all_below : ℕ → ℕ → List (Row ℕ) → Bool
all_below most other [] = ltb other most
all_below most other (row l h answer ∷ rows) = ltb answer most && all_below most other rows

-- then so is the answer to any number
pub lookup_below : (most other : ℕ) (rows : List (Row ℕ)) (n : ℕ) → all_below most other rows ≡ true → lookup other rows n < most
unfolding lookup
lookup_below most other [] n e = ltb-true other most e
lookup_below most other (row l h a ∷ rows) n e =
    let both = (and-eq-true_iff (ltb a most) (all_below most other rows)).0 e in
    go (ltb-true a most both.0) (lookup_below most other rows n both.1) (within l h n)
  where
    go : a < most → lookup other rows n < most → (t : Bool) → cond t a (lookup other rows n) < most
    go first more true = first
    go first more false = more

-- two lists of the same ranges, whose answers are related row by row
pub data Beside {A B : Type 0} (R : A → B → Type 0) : List (Row A) → List (Row B) → Type 0 where
  none_left : Beside R [] []
  also : {low high : ℕ} {a : A} {b : B} {xs : List (Row A)} {ys : List (Row B)} → R a b → Beside R xs ys
      → Beside R (row low high a ∷ xs) (row low high b ∷ ys)

-- then so are their answers to any number, if those to a number in no range are
pub lookup_beside : {A B : Type 0} (R : A → B → Type 0) {other : A} {other' : B} → R other other' → {xs : List (Row A)} {ys : List (Row B)}
    → Beside R xs ys → (n : ℕ) → R (lookup other xs n) (lookup other' ys n)
unfolding lookup
lookup_beside R rest none_left n = rest
lookup_beside R {other} {other'} rest (also {low} {high} {a} {b} {xs} {ys} first more) n =
    go (within low high n) (lookup_beside R rest more n)
  where
    go : (t : Bool) → R (lookup other xs n) (lookup other' ys n) → R (cond t a (lookup other xs n)) (cond t b (lookup other' ys n))
    go true further = first
    go false further = further

-- a number that a row of one number does not hold
pub outside : (k n : ℕ) → (n ≡ k → ⊥) → within k k n ≡ false
outside k n ne = go (dec_lt n k)
  where
    go : Dec (n < k) → within k k n ≡ false
    go (yes h) = below k k n h
    go (no h) = above k k n (omega arith)

-- a number that is none of the first i, as the last arm of a match on 0, 1 and so on has it
abbrev pub NoneOf : ℕ → ℕ → Type 0
NoneOf n zero = Unit {0}
NoneOf n (suc i) = NoneOf n i × (n ≡ i → ⊥)

pub beyond : (n i : ℕ) → NoneOf n i → i ≤ n
beyond n zero none_of = omega arith
beyond n (suc i) none_of = let other = none_of.1 in omega (arith, beyond n i none_of.0)
