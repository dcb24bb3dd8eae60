-- What the walk finds, by the bytes that it goes over: the parts at the front of a list lie within it, a stop has its reason at a place,
-- and an option is the parts of its code from a place on.
-- Assumes nothing.
use mathlib.Core.Path.{◌≡◌, refl, sym, ap, ◌∙◌, subst}
use Prim.Native.Nat.{ℕ, suc, zero, ◌+◌, ◌*◌, ◌≤◌, ◌<◌}
use native.Mathlib.Omega.{arith}
use native.Mathlib.Numerals.{add-one}
use mathlib.Core.List.{List, [], ◌∷◌, ◌++◌}
use mathlib.Core.Bool.{Bool, true, false, cond}
use lib.ListN.{length, take, drop, length-take, length-drop, length-append}
use lib.Seq.{length-take-le}
use lib.Dec.{eqb, leb}
use native.Mathlib.Decide.{dec_le, ℕ_discrete}
use borrow.Author.Tests.{eq-eqb, ne_eqb, le-leb, lt-leb}
use Rattle.rfc.specs.Numbers.{pad_code, end_code}
use Rattle.rfc.specs.Walk.{Stop, out, end, cut_length, cut_value, cut_continuation, Found, stop, option, Run, cut, run, extend, further_in, further, joined, behind, walk}
use Rattle.rfc.specs.Lists.{Bytes}
use Rattle.rfc.proofs.Bytes.{bytes_drop}
use Rattle.rfc.proofs.Walk.{extend_run, further_more}

-- what the parts at the front of a list are: they lie within it; of bytes, each has no more than 255; and no parts have no bytes
abbrev pub Lies : List ℕ → Run → Type 0
Lies rest cut = Unit {0}
Lies rest (run n vs) = (2 * n + length vs ≤ length rest) × (Bytes rest → length vs ≤ 255 * n) × (n ≡ 0 → vs ≡ [])

lies_none : (rest : List ℕ) → Lies rest (run 0 [])
lies_none rest = (omega arith, λ b. omega arith, λ e. refl)

lies_in : (k code : ℕ) (rest : List ℕ) → Lies rest (further_in k code rest)
unfolding further_in extend
lies_in zero code rest = lies_none rest
lies_in (suc k) code [] = lies_none []
lies_in (suc k) code (b ∷ []) = go (eqb b code)
  where
    go : (t : Bool) → Lies (b ∷ []) (cond t cut (run 0 []))
    go true = tt
    go false = lies_none (b ∷ [])
lies_in (suc k) code (b ∷ n ∷ rest) =
    go (eqb b code) (leb n (length rest)) (further_in k code (drop n rest)) (lies_in k code (drop n rest))
  where
    go : (t u : Bool) (r : Run) → Lies (drop n rest) r → Lies (b ∷ n ∷ rest) (cond t (cond u (extend (take n rest) r) cut) (run 0 []))
    go true true cut h = tt
    go true true (run m ws) h =
        let long = length-append (take n rest) ws in
        let some = length-take n rest in (
          omega (arith, length-drop n rest),
          λ bytes. omega (arith, h.1 (bytes_drop n rest bytes.1.1)),
          λ e. absurd (omega arith),
        )
    go true false r h = tt
    go false u r h = lies_none (b ∷ n ∷ rest)

pub lies : (code : ℕ) (rest : List ℕ) (n : ℕ) (vs : List ℕ) → further code rest ≡ run n vs → Lies rest (run n vs)
unfolding further
lies code rest n vs e = subst (Lies rest) e (lies_in (length rest) code rest)

-- why the walk stops, by the bytes where it does, and how many of them are before the place behind the stop (document 01)
pub data Halts : Stop → List ℕ → ℕ → Type 0 where
  -- no byte is left
  none_left : Halts out [] 0
  -- an End
  at-end : {rest : List ℕ} → Halts end (end_code ∷ rest) 1
  -- a code, and no length byte
  no_length : {code : ℕ} → Halts cut_length (code ∷ []) 1
  -- a length beyond what is left
  no_value : {code n : ℕ} {rest : List ℕ} → length rest < n → Halts cut_value (code ∷ n ∷ rest) 2
  -- a complete part, and behind it one that is cut
  no_further : {code n : ℕ} {rest : List ℕ} → n ≤ length rest → further code (drop n rest) ≡ cut
      → Halts cut_continuation (code ∷ n ∷ rest) (2 + n)

-- what the walk finds from the place `at` on: a stop has its reason at a place, and an option is the parts of its code from a place on
abbrev pub Finds : ℕ → List ℕ → Found → Type 0
Finds at rest (stop s p) = (skip taken : ℕ) × (skip ≤ length rest) × (at + skip + taken ≡ p) × Halts s (drop skip rest) taken
Finds at rest (option code v n p) =
    (skip : ℕ) × (skip ≤ length rest) × (1 ≤ n) × (at + skip + (2 * n + length v) ≡ p) × (further code (drop skip rest) ≡ run n v)

finds_later : (at b : ℕ) (rest : List ℕ) (f : Found) → Finds (at + 1) rest f → Finds at (b ∷ rest) f
finds_later at b rest (stop s p) (skip, taken, inside, ends, why) = (suc skip, taken, omega arith, omega arith, why)
finds_later at b rest (option code v n p) (skip, inside, some, ends, parts) = (suc skip, omega arith, some, omega arith, parts)

finds_joined : (at code n : ℕ) (rest : List ℕ) (r : Run) → n ≤ length rest → further code (drop n rest) ≡ r
    → Finds at (code ∷ n ∷ rest) (joined code (take n rest) (at + 1 + 1 + n) r)
unfolding joined
finds_joined at code n rest cut h e = (0, 2 + n, omega arith, omega arith, no_further h e)
finds_joined at code n rest (run m vs) h e =
    let first : List ℕ = take n rest in (
      0,
      omega arith,
      omega arith,
      omega (arith, length-append first vs, length-take-le n rest h),
      further_more code code n rest refl h ∙ ap (extend first) e ∙ extend_run first m vs
          ∙ ap (λ (k : ℕ). run k (first ++ vs)) (sym (add-one m)),
    )

finds_behind : (at code : ℕ) (rest : List ℕ) → Finds at (code ∷ rest) (behind code (at + 1) rest)
unfolding behind
finds_behind at code [] = (0, 1, omega arith, omega arith, no_length)
finds_behind at code (n ∷ rest) = go (dec_le n (length rest))
  where
    go : Dec (n ≤ length rest) → Finds at (code ∷ n ∷ rest) (behind code (at + 1) (n ∷ rest))
    go (yes h) = rw (le-leb n (length rest) h) (finds_joined at code n rest (further code (drop n rest)) h refl)
    go (no h) =
        let short : length rest < n = omega arith in
        rw (lt-leb n (length rest) short) (0, 2, omega arith, omega arith, no_value short)

pub finds : (at : ℕ) (rest : List ℕ) → Finds at rest (walk at rest)
unfolding walk
finds at [] = (0, 0, omega arith, omega arith, none_left)
finds at (b ∷ rest) = go (ℕ_discrete b pad_code) (ℕ_discrete b end_code) (finds (at + 1) rest)
  where
    go : Dec (b ≡ pad_code) → Dec (b ≡ end_code) → Finds (at + 1) rest (walk (at + 1) rest) → Finds at (b ∷ rest) (walk at (b ∷ rest))
    go (yes z) _ later = rw (eq-eqb b pad_code z) (finds_later at b rest (walk (at + 1) rest) later)
    go (no z) (yes e) _ = rw (ne_eqb b pad_code z, eq-eqb b end_code e, e) (0, 1, omega arith, omega arith, at-end)
    go (no z) (no e) _ = rw (ne_eqb b pad_code z, ne_eqb b end_code e) (finds_behind at b rest)
