-- The laws of `pieces`.
-- Assumes nothing.
use mathlib.Core.Path.{◌≡◌, refl, sym, ap, ◌∙◌}
use Prim.Native.Nat.{ℕ, suc, zero, ◌+◌, ◌-◌, ◌*◌, ◌/◌, ◌≤◌, ◌<◌}
use native.Mathlib.Omega.{arith}
use native.Mathlib.Nat.{not-suc-le-zero, le_refl, div-eq_of_lt, div-eq-sub-div, suc-mul, zero-mul, add_comm, div-add-mod', mul-le-mul_right}
use lib.Arith.{digits_div}
use native.Mathlib.Decide.{dec_le}
use mathlib.Core.List.{List, [], ◌∷◌, ◌++◌, flatten}
use lib.ListN.{length, take, drop, get_or, length-append, length-drop, take-append-drop}
use lib.Seq.{take-nil, drop-nil, drop-drop, get_or-drop, take_at, drop_at}
use Rattle.facts.specs.Pieces.{pieces_in, pieces}

module _ (size : ℕ) (some : 0 < size) where
  -- more pieces to cut change nothing, where there are enough
  enough : (k m : ℕ) (l : List ℕ) → length l ≤ k → length l ≤ m → pieces_in k size l ≡ pieces_in m size l
  unfolding pieces_in
  enough zero zero l h g = refl
  enough zero (suc m) [] h g = refl
  enough zero (suc m) (x ∷ l) h g = absurd (not-suc-le-zero h)
  enough (suc k) zero [] h g = refl
  enough (suc k) zero (x ∷ l) h g = absurd (not-suc-le-zero g)
  enough (suc k) (suc m) [] h g = refl
  enough (suc k) (suc m) (x ∷ l) h g =
      let d = length-drop size (x ∷ l) in
      ap (λ (ps : List (List ℕ)). take size (x ∷ l) ∷ ps) (enough k m (drop size (x ∷ l)) (omega arith) (omega arith))

  pub pieces_more : (l : List ℕ) → 0 < length l → pieces size l ≡ take size l ∷ pieces size (drop size l)
  unfolding pieces pieces_in
  pieces_more [] h = absurd (not-suc-le-zero h)
  pieces_more (x ∷ l) h =
      let rest : List ℕ = drop size (x ∷ l) in
      ap (λ (ps : List (List ℕ)). take size (x ∷ l) ∷ ps)
      (enough (length l) (length rest) rest (omega (arith, length-drop size (x ∷ l))) (le_refl _))

pub pieces_none : (size : ℕ) → pieces size [] ≡ []
unfolding pieces pieces_in
pieces_none size = refl

module _ (size : ℕ) (some : 0 < size) where
  -- what holds of no elements, and of some where it holds behind the first piece, holds of every list
  by_pieces : (P : List ℕ → Type 0) → P [] → ((x : ℕ) (l : List ℕ) → P (drop size (x ∷ l)) → P (x ∷ l)) → (l : List ℕ) → P l
  by_pieces P none more l = go (length l) l (le_refl _)
    where
      go : (k : ℕ) (l : List ℕ) → length l ≤ k → P l
      go zero [] h = none
      go zero (x ∷ l) h = absurd (not-suc-le-zero h)
      go (suc k) [] h = none
      go (suc k) (x ∷ l) h = more x l (go k (drop size (x ∷ l)) (omega (arith, length-drop size (x ∷ l))))

  -- the pieces one behind the other are the list
  pub flatten_pieces : (l : List ℕ) → flatten (pieces size l) ≡ l
  unfolding flatten
  flatten_pieces =
      by_pieces (λ l. flatten (pieces size l) ≡ l) (ap flatten (pieces_none size))
      (λ x l rest. ap flatten (pieces_more size some (x ∷ l) (omega arith))
      ∙ ap (λ (r : List ℕ). take size (x ∷ l) ++ r) rest ∙ take-append-drop size (x ∷ l))

  -- how many there are: the length by the size, rounded up
  one_more : (n : ℕ) → 0 < n → (n + (size - 1)) / size ≡ suc ((n - size + (size - 1)) / size)
  one_more n h = go (dec_le size n)
    where
      go : Dec (size ≤ n) → (n + (size - 1)) / size ≡ suc ((n - size + (size - 1)) / size)
      go (yes g) =
          let a : n + (size - 1) - size ≡ n - size + (size - 1) = omega arith in
          let b = div-eq-sub-div {m = size} {n = n + (size - 1)} some (omega arith) in
          let c = ap (λ (k : ℕ). k / size) a in
          omega arith
      go (no g) =
          let a = div-eq-sub-div {m = size} {n = n + (size - 1)} some (omega arith) in
          let b = div-eq_of_lt {n = n + (size - 1) - size} {m = size} (omega arith) in
          let c = div-eq_of_lt {n = n - size + (size - 1)} {m = size} (omega arith) in
          omega arith

  pub count_pieces : (l : List ℕ) → length (pieces size l) ≡ (length l + (size - 1)) / size
  count_pieces =
      by_pieces (λ l. length (pieces size l) ≡ (length l + (size - 1)) / size)
      (ap length (pieces_none size) ∙ sym (div-eq_of_lt {n = 0 + (size - 1)} {m = size} (omega arith)))
      (λ x l rest. ap length (pieces_more size some (x ∷ l) (omega arith))
      ∙ ap suc (rest ∙ ap (λ (n : ℕ). (n + (size - 1)) / size) (length-drop size (x ∷ l))) ∙ sym (one_more (length (x ∷ l)) (omega arith)))

  -- a length of so many whole sizes gives so many pieces
  pub count_whole : (l : List ℕ) (n : ℕ) → length l ≡ n * size → length (pieces size l) ≡ n
  count_whole l n e =
      count_pieces l ∙ ap (λ (k : ℕ). (k + (size - 1)) / size) e ∙ digits_div n (omega arith)

  -- the pieces behind the first k
  drop_pieces : (k : ℕ) (l : List ℕ) → drop k (pieces size l) ≡ pieces size (drop (k * size) l)
  drop_pieces zero l = rw zero-mul
  drop_pieces (suc k) [] = rw (drop-nil (suc k * size), pieces_none size)
  drop_pieces (suc k) (x ∷ l) =
      rw (pieces_more size some (x ∷ l) (omega arith), suc-mul k size, add_comm (k * size) size, ← (drop-drop (k * size) size (x ∷ l)))
      (drop_pieces k (drop size (x ∷ l)))

  -- the piece at an index
  pub piece_at : (k : ℕ) (l : List ℕ) → get_or (pieces size l) k [] ≡ take size (drop (k * size) l)
  piece_at k l =
      let z : k + 0 ≡ k = omega arith in
      rw (← z, ← (get_or-drop k (pieces size l) 0 []), drop_pieces k l) (rw z (first (drop (k * size) l)))
    where
      first : (m : List ℕ) → get_or (pieces size m) 0 [] ≡ take size m
      first [] = rw (pieces_none size, take-nil size)
      first (x ∷ m) = rw (pieces_more size some (x ∷ m) (omega arith))

-- a whole piece lies inside
pub piece_lies : (size n index : ℕ) → index < n / size → index * size + size ≤ n
piece_lies size n index h =
    let e : index * size + size ≡ suc index * size = sym (suc-mul index size) in
    omega (arith, div-add-mod' n size, mul-le-mul_right size h)

-- a piece of the size itself, in front of what is cut
pub pieces_front : (size : ℕ) → 0 < size → (p l : List ℕ) → length p ≡ size → pieces size (p ++ l) ≡ p ∷ pieces size l
pieces_front size some p l e =
    pieces_more size some (p ++ l) (omega (arith, length-append p l))
    ∙ (λ i. take_at p l size e i ∷ pieces size (drop_at p l size e i))
