-- The bytes of a list at a place, read and stored one by one: proved once, for every width.
-- Assumes nothing.
use mathlib.Core.Path.{◌≡◌, refl, ◌∙◌, ap, sym}
use mathlib.Core.List.{List, [], ◌∷◌, ◌++◌, append_assoc, append-nil}
use Prim.Native.Nat.{ℕ, zero, suc, ◌+◌, ◌*◌, ◌≤◌}
use native.Mathlib.Nat.{add-suc}
use native.Mathlib.Numerals.{add-one}
use native.Mathlib.Omega.{arith}
use lib.ListN.{length, get_or, take, drop, set, length-append}
use lib.Seq.{drop-cons}
use Rattle.facts.specs.BigEndian.{number}
use Rattle.facts.specs.Over.{over}
use Rattle.facts.proofs.Over.{over_nil, over_over, set_over, length_over}

-- the w bytes at at + i, at + i + 1 and so on
abbrev pub cells_from : List ℕ → ℕ → ℕ → ℕ → List ℕ
cells_from s at i zero = []
cells_from s at i (suc w) = get_or s (at + i) 0 ∷ cells_from s at (suc i) w

-- the w bytes at at, at + 1, at + 2 and so on, as code writes the places
abbrev pub cells : List ℕ → ℕ → ℕ → List ℕ
cells s at zero = []
cells s at (suc w) = get_or s at 0 ∷ cells_from s at 1 w

part_from : (s : List ℕ) (at i w : ℕ) → at + i + w ≤ length s → take w (drop (at + i) s) ≡ cells_from s at i w
part_from s at i zero h = refl
part_from s at i (suc w) h =
    ap (take (suc w)) (drop-cons s (at + i) 0 (omega arith))
    ∙ ap (λ (k : ℕ). get_or s (at + i) 0 ∷ take w (drop k s)) (sym (add-suc at i))
    ∙ ap (λ (l : List ℕ). get_or s (at + i) 0 ∷ l) (part_from s at (suc i) w (omega arith))

-- a part that is there has these bytes
pub part_cells : (s : List ℕ) (at w : ℕ) → at + w ≤ length s → take w (drop at s) ≡ cells s at w
part_cells s at zero h = refl
part_cells s at (suc w) h =
    ap (take (suc w)) (drop-cons s at 0 (omega arith))
    ∙ ap (λ (k : ℕ). get_or s at 0 ∷ take w (drop k s)) (sym (add-one at))
    ∙ ap (λ (l : List ℕ). get_or s at 0 ∷ l) (part_from s at 1 w (omega arith))

-- and is the number that they are
cells_number : (s : List ℕ) (at w : ℕ) → at + w ≤ length s → number (cells s at w) ≡ number (take w (drop at s))
cells_number s at w there = ap number (sym (part_cells s at w there))

-- one byte is its number
pub byte_at : (s : List ℕ) (at : ℕ) → at + 1 ≤ length s → get_or s at 0 ≡ number (take 1 (drop at s))
byte_at s at there =
    let e : get_or s at 0 ≡ 0 * 256 + get_or s at 0 = omega arith in
    e ∙ cells_number s at 1 there

-- bytes stored at at + i, at + i + 1 and so on
abbrev pub stores_from : List ℕ → ℕ → ℕ → List ℕ → List ℕ
stores_from d at i [] = d
stores_from d at i (b ∷ bs) = stores_from (set d (at + i) b) at (suc i) bs

-- bytes stored at at, at + 1, at + 2 and so on, as code writes the places
abbrev pub stores : List ℕ → ℕ → List ℕ → List ℕ
stores d at [] = d
stores d at (b ∷ bs) = stores_from (set d at b) at 1 bs

stored_from : (d : List ℕ) (at : ℕ) (s : List ℕ) (i : ℕ) (bs : List ℕ) → length s ≡ i → at + (i + length bs) ≤ length d
    → stores_from (over d at s) at i bs ≡ over d at (s ++ bs)
stored_from d at s i [] e h = ap (over d at) (sym (append-nil s))
stored_from d at s i (b ∷ bs) e h =
    let one : set (over d at s) (at + i) b ≡ over d at (s ++ b ∷ []) =
    set_over (over d at s) (at + i) b (omega (arith, length_over d at s (omega arith)))
    ∙ ap (λ (k : ℕ). over (over d at s) (at + k) (b ∷ [])) (sym e)
    ∙ over_over d at s (b ∷ []) (omega arith) in
    ap (λ (x : List ℕ). stores_from x at (suc i) bs) one
    ∙ stored_from d at (s ++ b ∷ []) (suc i) bs (omega (arith, length-append s (b ∷ []))) (omega arith)
    ∙ ap (over d at) (append_assoc s (b ∷ []) bs)

-- stores one behind the other are one write
pub stores_over : (d : List ℕ) (at : ℕ) (bs : List ℕ) → at + length bs ≤ length d → stores d at bs ≡ over d at bs
stores_over d at [] h = sym (over_nil d at)
stores_over d at (b ∷ bs) h =
    ap (λ (x : List ℕ). stores_from x at 1 bs) (set_over d at b (omega arith)) ∙ stored_from d at (b ∷ []) 1 bs refl (omega arith)
