-- Numbers put one behind the other, each of so many bytes: what stands in the room after each of them. Proved once, for every width.
-- Assumes nothing.
use mathlib.Core.Path.{◌≡◌, sym, ap, ◌∙◌, subst}
use Prim.Native.Nat.{ℕ, ◌+◌, ◌*◌, ◌/◌, ◌≤◌, ◌<◌}
use mathlib.Core.List.{List, map}
use native.Mathlib.Omega.{arith}
use native.Mathlib.Nat.{mul-suc, mul-zero, mul_comm, mul-le-mul_left, mul-div-le, lt-div-mul-add}
use native.Mathlib.Numerals.{add-one}
use lib.ListN.{length, get_or}
use Rattle.facts.specs.Over.{over}
use Rattle.facts.specs.BigEndian.{digits}
use Rattle.facts.proofs.Laid.{Laid, laid_none, laid_more, laid_all}
use Rattle.rfc.specs.Typed.{digits_of}
use Rattle.rfc.proofs.Typed.{length_digits_of, digits_at}
use Rattle.std.proofs.lemmas.List.{length-map}
use Rattle.encoder.specs.Numbers.{NumberLaws}

module _ (width : ℕ) {room₀ : List ℕ} (l : List ℕ) {place : ℕ} where
  pub put_none : place + width * length l ≤ length room₀ → Laid room₀ room₀ (digits_of width l) place (width * 0)
  put_none h =
      subst (Laid room₀ room₀ (digits_of width l) place) (sym (mul-zero width))
      (laid_none room₀ (digits_of width l) place (omega (arith, length_digits_of width l)))

  -- the first i numbers are put
  module _ {room : List ℕ} (i : ℕ) (s : Laid room₀ room (digits_of width l) place (width * i)) where
    pub put_more : i < length l → {room' : List ℕ} → room' ≡ over room (place + width * i) (digits width (get_or l i 0))
        → Laid room₀ room' (digits_of width l) place (width * (i + 1))
    put_more h {room'} e =
        let next : i + 1 ≤ length l = omega arith in
        let more : width * i + width ≡ width * (i + 1) = omega (arith, mul-suc width i, ap (λ (k : ℕ). width * k) (add-one i)) in
        subst (λ (k : ℕ). Laid room₀ room' (digits_of width l) place k) more
        (laid_more s width (omega (arith, mul-le-mul_left width next, length_digits_of width l))
        (e ∙ ap (over room (place + width * i)) (sym (digits_at width i l h))))

    pub put_all : length l ≤ i → room ≡ over room₀ place (digits_of width l)
    put_all h = laid_all s (omega (arith, mul-le-mul_left width h, length_digits_of width l))

-- numbers of a type by its laws: how many bytes they have, and whether they fit where so many are left
module _ {A : Type 0} {width : ℕ} {value : A → ℕ} {bytes : List A → List ℕ} (laws : NumberLaws width value bytes) where
  pub length_bytes : (l : List A) → length (bytes l) ≡ width * length l
  length_bytes l =
      ap length (laws.all l) ∙ length_digits_of width (map value l) ∙ ap (λ (k : ℕ). width * k) (length-map l value)

  module _ {w left n : ℕ} (e : w ≡ width) where
    pub turns_fit : n ≤ left / w → width * n ≤ left
    turns_fit h = omega (arith, mul-le-mul_left width (subst (λ (k : ℕ). n ≤ left / k) e h), mul-div-le left width)

    pub turns_past : left / w < n → left < width * n
    turns_past h =
        let some : 0 < width = omega (arith, laws.some) in
        let next : left / width + 1 ≤ n = omega (arith, subst (λ (k : ℕ). left / k < n) e h) in
        omega (
          arith,
          lt-div-mul-add {a = left} {b = width} some,
          mul-le-mul_left width next,
          mul-suc width (left / width),
          ap (λ (k : ℕ). width * k) (add-one (left / width)),
          mul_comm width (left / width),
        )
