-- One row: which check decides, and what is so where none does.
-- Assumes nothing.
use mathlib.Core.Path.{◌≡◌, refl, sym, ap, ◌∙◌}
use Prim.Native.Nat.{ℕ, ◌+◌, ◌-◌, ◌≤◌, ◌<◌}
use mathlib.Core.Bool.{true, false}
use mathlib.Core.List.{List, [], ◌∷◌}
use native.Mathlib.Omega.{arith}
use native.Mathlib.Decide.{dec_le}
use borrow.Author.Tests.{lt-ltb, le-ltb, ltb-false}
use lib.Dec.{lit<}
use lib.ListN.{length, take, drop, length-drop}
use lib.Seq.{length-take-le}
use Rattle.facts.specs.Over.{over}
use Rattle.facts.proofs.Over.{over_nil}
use Rattle.rfc.specs.Numbers.{given, refused, most_bytes, most_value, most_part, pad_code, no_code, too_much}
use Rattle.rfc.specs.Writing.{encode, size_in_parts, answer_to, write_bytes}
use Rattle.rfc.proofs.Numbers.{Clear, here, later, done, next, pad-code, end-code, a_code, much, not_much, not_too_much}
use Rattle.rfc.proofs.Alike.{none, both, passes_left, as_bytes}
use Rattle.rfc.proofs.Writing.{Alike, length_encode, encode_empty, encode_once, checks_refuse, clear_8, clear_given, given_clear, given_to, given_fits, given_left}
use Rattle.std.specs.Prelude.{Result, Ok, Err}
use Rattle.refusal.specs.declared.Refusal.{Refusal}
use Rattle.refusal.specs.Told.{told}
use Rattle.encoder.specs.Written.{Wrote}
use Rattle.encoder.proofs.Answers.{writes}
use Rattle.options.specs.Rows.{outside, not_code, write_row, Fitting}

-- 4
stands_outside : (start len : ℕ) (values : List ℕ) → length values < start + len → outside start len values ≡ true
unfolding outside
stands_outside start len values h = lt-ltb (length values) (start + len) h

stands_inside : (start len : ℕ) (values : List ℕ) → start + len ≤ length values → outside start len values ≡ false
unfolding outside
stands_inside start len values h = le-ltb (length values) (start + len) h

is_inside : (start len : ℕ) (values : List ℕ) → outside start len values ≡ false → start + len ≤ length values
unfolding outside
is_inside start len values e = ltb-false (length values) (start + len) e

-- 6
no_byte : (code : ℕ) → 255 < code → not_code code ≡ true
unfolding not_code
no_byte code h = rw (lt-ltb 255 code h)

a_byte : (code : ℕ) → code ≤ 255 → not_code code ≡ no_code code
unfolding not_code
a_byte code h = rw (le-ltb 255 code h)

is_byte : (code : ℕ) → not_code code ≡ false → code ≤ 255
is_byte code e = go (dec_le code 255)
  where
    go : Dec (code ≤ 255) → code ≤ 255
    go (yes h) = h
    go (no h) = absurd (let z : true ≡ false = sym (no_byte code (omega arith)) ∙ e in let n : ◌≡◌ {A = ℕ} 0 1 = cc in omega arith)

-- a row
module _ (code start len : ℕ) (values room : List ℕ) (place : ℕ) where
  abbrev value : List ℕ
  value = take len (drop start values)

  pub row_4 : length values < start + len → answer_to (write_row code start len values) room place ≡ refused 4
  unfolding write_row
  row_4 a = checks_refuse _ room place (here (stands_outside start len values a))

  module _ (a : start + len ≤ length values) where
    -- how many bytes its value has
    length_value : length value ≡ len
    length_value = length-take-le len (drop start values) (omega (arith, length-drop start values))

    -- and takes
    pub length_row : length (encode most_part code value) ≡ size_in_parts most_part len
    length_row =
        length_encode most_part (lit< tt) code value ∙ ap (size_in_parts most_part) length_value

    -- in a room that is not too long, at a place of it, it is the write of a byte value
    pub row_bytes : code ≤ 255 → length room ≤ most_bytes → place ≤ length room
        → Alike (write_row code start len values) (write_bytes code value room place) room place
    unfolding write_row
    row_bytes b short within =
        as_bytes _ code value room place short within refl (passes_left (stands_inside start len values a) (both (a_byte code b) (both refl none)))

    row_6 : not_code code ≡ true → answer_to (write_row code start len values) room place ≡ refused 6
    unfolding write_row
    row_6 e = checks_refuse _ room place (later (stands_inside start len values a) (here e))

    pub row_pad : code ≡ pad_code → answer_to (write_row code start len values) room place ≡ refused 6
    row_pad e = row_6 (a_byte code (omega arith) ∙ pad-code code e)

    pub row_above : 254 < code → answer_to (write_row code start len values) room place ≡ refused 6
    row_above h = row_6 (go (dec_le code 255))
      where
        go : Dec (code ≤ 255) → not_code code ≡ true
        go (yes g) = a_byte code g ∙ end-code code (λ z. omega arith) (omega arith)
        go (no g) = no_byte code (omega arith)

    module _ (n : code ≡ pad_code → ⊥) (b : code ≤ 254) where
      good : not_code code ≡ false
      good = a_byte code (omega arith) ∙ a_code code n (λ e. omega arith)

      pub row_7 : most_value < len → answer_to (write_row code start len values) room place ≡ refused 7
      unfolding write_row
      row_7 h =
          checks_refuse _ room place
          (later (stands_inside start len values a) (later good (here (much value (omega (arith, length_value))))))

      -- else only the room's end can refuse it
      module _ (c : len ≤ most_value) where
        clear : Clear (write_row code start len values).checks
        unfolding write_row
        clear = next (stands_inside start len values a) (next good (next (not_much value (omega (arith, length_value))) done))

        takes : length (write_row code start len values).bytes ≡ size_in_parts most_part len
        unfolding write_row
        takes = length_row

        pub row_ends : (r : Result ℕ Refusal) (to : ℕ) → Fitting room to r → to ≡ place + size_in_parts most_part len
            → told r ≡ answer_to (write_row code start len values) room place
        row_ends (Ok end) to f e =
            ap (λ (k : ℕ). given k) (omega (arith, f.0, takes)) ∙ sym (clear_given _ room place clear (omega (arith, f.1, takes)))
        row_ends (Err refusal) to f e = ap told (ap Err f.0) ∙ sym (clear_8 _ room place clear (omega (arith, f.1, takes)))

  -- a row that is not refused
  module _ {to : ℕ} (e : answer_to (write_row code start len values) room place ≡ given to) where
    tests : (outside start len values ≡ false) × (not_code code ≡ false) × (too_much value ≡ false)
    unfolding write_row
    tests = go (given_clear _ room place to e)
      where
        go : Clear (write_row code start len values).checks
            → (outside start len values ≡ false) × (not_code code ≡ false) × (too_much value ≡ false)
        go (next a (next b (next c done))) = (a, b, c)

    -- its value stands there, its code is a byte, its value is not too long, and it fits
    pub passed_inside : start + len ≤ length values
    passed_inside = is_inside start len values tests.0

    pub passed_byte : code ≤ 255
    passed_byte = is_byte code tests.1

    pub passed_short : len ≤ most_value
    passed_short = omega (arith, length_value passed_inside, not_too_much value tests.2)

    -- as the code has it, by its two ends
    abbrev slice : List ℕ
    slice = take (start + len - start) (drop start values)

    slice_is : slice ≡ value
    slice_is = let n : start + len - start ≡ len = omega arith in ap (λ (k : ℕ). take k (drop start values)) n

    pub length_slice : length slice ≡ len
    length_slice = ap length slice_is ∙ length_value passed_inside

    slice_takes : length (encode most_part code slice) ≡ size_in_parts most_part len
    slice_takes = ap (λ (v : List ℕ). length (encode most_part code v)) slice_is ∙ length_row passed_inside

    pub passed_fits : place + length (encode most_part code slice) ≤ length room
    unfolding write_row
    passed_fits =
        let same = ap (λ (v : List ℕ). length (encode most_part code v)) slice_is in omega (arith, same, given_fits _ room place to e)

    pub passed_takes : place + size_in_parts most_part len ≤ length room
    passed_takes = omega (arith, passed_fits, slice_takes)

    -- and it is written where its bytes are put: in its parts, as one part, or with none
    module _ {end : ℕ} (ends : end ≡ place + size_in_parts most_part len) where
      pub passed_parts : {room' : List ℕ} → room' ≡ over room place (encode most_part code slice)
          → Wrote (write_row code start len values) room room' place (Ok end)
      unfolding write_row
      passed_parts p =
          writes _ room place _ _ (e ∙ ap given (given_to _ room place to e ∙ omega (arith, length_row passed_inside)))
          (given_left _ room place to e ∙ sym (p ∙ ap (λ (v : List ℕ). over room place (encode most_part code v)) slice_is))

      pub passed_part : {room' : List ℕ} → 0 < len → len ≤ most_part → room' ≡ over room place (code ∷ length slice ∷ slice)
          → Wrote (write_row code start len values) room room' place (Ok end)
      passed_part h g p =
          let l = length_slice in
          passed_parts (p ∙ ap (over room place) (sym (encode_once most_part code slice (omega (arith, l)) (omega (arith, l)))))

      pub passed_none : len ≡ 0 → Wrote (write_row code start len values) room room place (Ok end)
      passed_none h =
          let none : encode most_part code slice ≡ [] = encode_empty most_part (lit< tt) code slice (length_slice ∙ h) in
          passed_parts (sym (ap (over room place) none ∙ over_nil room place))
