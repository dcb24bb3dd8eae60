-- Elements of a list put part by part, so many of them a part and so many bytes each, each part with its code and its length before it:
-- what stands in the room after each part. Proved once, for bytes and for numbers of any width, from the laws of parts of bytes.
-- Assumes nothing.
use mathlib.Core.Path.{◌≡◌, refl, sym, ap, ◌∙◌, subst}
use Prim.Native.Nat.{ℕ, zero, suc, ◌+◌, ◌-◌, ◌*◌, ◌≤◌, ◌<◌, min}
use mathlib.Core.List.{List, ◌∷◌, ◌++◌, map}
use native.Mathlib.Omega.{arith}
use native.Mathlib.Nat.{mul-add, mul-sub, mul-le-mul_left}
use lib.ListN.{length, take, drop, set, length-set, length-drop}
use lib.Seq.{drop-drop, take_at, drop_at}
use Rattle.facts.specs.Over.{over}
use Rattle.facts.proofs.Least.{mul_least}
use Rattle.rfc.specs.Numbers.{most_part}
use Rattle.rfc.specs.Writing.{encode, write_slice}
use Rattle.rfc.specs.Typed.{digits_of}
use Rattle.rfc.proofs.Sofar.{Sofar, part_over, sofar_none, sofar_more, sofar_all}
use Rattle.rfc.proofs.Typed.{digits_part}
use Rattle.std.proofs.lemmas.List.{take-map, drop-map}
use Rattle.std.specs.Prelude.{Result}
use Rattle.refusal.specs.declared.Refusal.{Refusal}
use Rattle.encoder.specs.Written.{Wrote}
use Rattle.encoder.specs.Numbers.{NumberLaws}
use Rattle.encoder.proofs.Answers.{put_part}
use Rattle.encoder.proofs.Turns.{length_bytes}

-- what is made of elements, so many bytes of each
pub record Made {A : Type 0} (width : ℕ) (make : List A → List ℕ) : Type 0 where
  pub long : (l : List A) → length (make l) ≡ width * length l
  pub piece : (from n : ℕ) (l : List A) → make (take n (drop from l)) ≡ take (width * n) (drop (width * from) (make l))

-- bytes are their own
pub made_bytes : Made {A = ℕ} 1 (λ l. l)
made_bytes =
    record {
      long = λ l. omega arith;
      piece = λ from n l.
          let one : (k : ℕ) → 1 * k ≡ k = λ k. omega arith in
          sym (ap (λ (k : ℕ). take k (drop (1 * from) l)) (one n) ∙ ap (λ (k : ℕ). take n (drop k l)) (one from));
    }

-- numbers by their laws
pub made_numbers : {A : Type 0} {width : ℕ} {value : A → ℕ} {bytes : List A → List ℕ} → NumberLaws width value bytes → Made width bytes
made_numbers {width = width} {value} {bytes} laws =
    record {
      long = length_bytes laws;
      piece = λ from n l.
          laws.all (take n (drop from l))
          ∙ sym
          (ap (λ bs. take (width * n) (drop (width * from) bs)) (laws.all l)
          ∙ digits_part width from n (map value l)
          ∙ ap (digits_of width) (ap (take n) (drop-map value from l) ∙ take-map value n (drop from l)));
    }

wide : (width most : ℕ) → 0 < width * most → 0 < width
wide zero most h = absurd (let z : 0 * most ≡ 0 = omega arith in omega arith)
wide (suc width) most h = omega arith

-- `rest` of the elements l is to be put from `at` on, and what is before it is put
pub record Cut {A : Type 0} (width most : ℕ) (make : List A → List ℕ) (room₀ room : List ℕ) (l rest : List A) (place code at : ℕ) : Type 0 where
  pub made : Made width make
  pub fits_part : width * most ≤ most_part
  pub from : ℕ
  pub rest_is : rest ≡ drop from l
  pub done : ℕ
  pub at_is : at ≡ place + done
  pub sofar : Sofar (width * most) room₀ room (make l) place code done (width * from)

module _ {A : Type 0} {width most : ℕ} {make : List A → List ℕ} (made : Made width make) (some : 0 < width * most)
    (fits_part : width * most ≤ most_part) where
  pub cut_none : {room : List ℕ} {l rest : List A} {place code : ℕ} → rest ≡ l
      → place + length (encode (width * most) code (make l)) ≤ length room → Cut width most make room room l rest place code place
  cut_none {room} {l} {rest} {place} {code} e h =
      let z : 0 ≡ width * 0 = omega arith in
      record {
        made = made;
        fits_part = fits_part;
        from = 0;
        rest_is = e;
        done = 0;
        at_is = omega arith;
        sofar = subst (λ (k : ℕ). Sofar (width * most) room room (make l) place code 0 k) z (sofar_none some h);
      }

module _ {A : Type 0} {width most : ℕ} {make : List A → List ℕ} {room₀ room : List ℕ} {l rest : List A} {place code at : ℕ}
    (s : Cut width most make room₀ room l rest place code at) where
  left : length rest ≡ length l - s.from
  left = ap length s.rest_is ∙ length-drop s.from l

  -- the next part has as many elements as it may
  module _ (part behind : List A) {k : ℕ} (k_is : k ≡ most)
      (next : (rest ≡ part ++ behind) × (length part ≡ min k (length rest)) × (0 < length rest)) where
    split : rest ≡ part ++ behind
    split = next.0

    as_many : length part ≡ min most (length rest)
    as_many = next.1 ∙ ap (λ (n : ℕ). min n (length rest)) k_is

    part_is : part ≡ take (length part) (drop s.from l)
    part_is = sym (ap (take (length part)) (sym s.rest_is ∙ split) ∙ take_at part behind (length part) refl)

    behind_is : behind ≡ drop (s.from + length part) l
    behind_is =
        sym (drop_at part behind (length part) refl)
        ∙ ap (drop (length part)) (sym split ∙ s.rest_is)
        ∙ drop-drop (length part) s.from l

    -- and so as many bytes
    most_bytes : width * length part ≡ min (width * most) (length (make l) - width * s.from)
    most_bytes =
        ap (λ (k : ℕ). width * k) (as_many ∙ ap (min most) left)
        ∙ mul_least width most (length l - s.from)
        ∙ ap (min (width * most)) (mul-sub width (length l) s.from ∙ ap (λ (k : ℕ). k - width * s.from) (sym (s.made.long l)))

    before : width * s.from < length (make l)
    before =
        let one : s.from + 1 ≤ length l = omega (arith, left, next.2) in
        omega (arith, s.made.long l, wide width most s.sofar.some, mul-le-mul_left width one, mul-add width s.from 1)

    pub part_short : width * length part ≤ most_part
    part_short = omega (arith, s.fits_part, most_bytes)

    pub part_fits : at + (2 + width * length part) ≤ length room
    part_fits = omega (arith, before, most_bytes, s.at_is, s.sofar.enough, s.sofar.laid.fits, s.sofar.laid.keeps, s.sofar.some)

    pub cut_more : {size to : ℕ} → size ≡ width * length part → to ≡ at + (2 + size)
        → {room' : List ℕ} → room' ≡ over room at (code ∷ size ∷ make part) → Cut width most make room₀ room' l behind place code to
    cut_more {size} {to} e g {room'} w =
        let bytes : make part ≡ take (width * length part) (drop (width * s.from) (make l)) = ap make part_is ∙ s.made.piece s.from (length part) l in
        record {
          made = s.made;
          fits_part = s.fits_part;
          from = s.from + length part;
          rest_is = behind_is;
          done = s.done + 2 + width * length part;
          at_is = omega (arith, s.at_is);
          sofar =
              subst (λ (m : ℕ). Sofar (width * most) room₀ room' (make l) place code (s.done + 2 + width * length part) m)
              (sym (mul-add width s.from (length part)))
              (sofar_more s.sofar before most_bytes
              (w ∙ ap (λ (k : ℕ). over room k (code ∷ size ∷ make part)) s.at_is
              ∙ ap (λ (k : ℕ). over room (place + s.done) (code ∷ k ∷ make part)) e
              ∙ ap (λ (p : List ℕ). over room (place + s.done) (code ∷ width * length part ∷ p)) bytes));
        }

  pub cut_all : length rest ≡ 0 → room ≡ over room₀ place (encode (width * most) code (make l))
  cut_all h =
      let none : length l ≤ s.from = omega (arith, h, ap length s.rest_is, length-drop s.from l) in
      sofar_all s.sofar (omega (arith, s.made.long l, mul-le-mul_left width none))

-- two stores, and a part's bytes in just their part of the room behind them
module _ (bytes room : List ℕ) (at code : ℕ) {size : ℕ} (e : length bytes ≡ size) (h : at + (2 + size) ≤ length room) where
  abbrev stored : List ℕ
  stored = set (set room at code) (at + 1) size

  abbrev long : ℕ
  long = at + 2 + size - (at + 2)

  pub part_put : {part : List ℕ} {r : Result ℕ Refusal} → Wrote (write_slice bytes (take long (drop (at + 2) stored)) 0) (take long (drop (at + 2) stored)) part 0 r
      → take (at + 2) stored ++ (part ++ drop long (drop (at + 2) stored)) ≡ over room at (code ∷ size ∷ bytes)
  part_put w =
      let s : length stored ≡ length room = simp length-set in
      put_part bytes stored (at + 2) long (omega arith) (omega arith) w ∙ part_over room bytes at code size (omega arith)
