-- The numbers that a caller may get back, when each is given, and in what order they are checked
-- (document 01, "Numbers a caller may get back").
-- A byte is a number. A message, an area, a room and a value are lists of bytes. A place is the number of bytes before it.
-- Assumes nothing.
use Rattle.std.specs.Prelude.{ℕ, ◌+◌, Bool, cond, ◌||◌, List, [], ◌∷◌, length, eqb, leb, ltb}

-- what every entry point answers
pub data Answer (A : Type 0) : Type 0 where
  -- what was asked for
  given : A → Answer A
  -- a refusal by its number
  refused : ℕ → Answer A
  -- refusal 5, and the length that is needed
  needs : ℕ → Answer A

-- what is made of what was given; a refusal stands
unfoldable pub and_then : {A B : Type 0} → Answer A → (A → Answer B) → Answer B
and_then (given a) f = f a
and_then (refused number) f = refused number
and_then (needs len) f = needs len

-- the fewest bytes of a message
abbrev pub least_message : ℕ
least_message = 240

-- the most bytes of a message, an area, a room or a value to be read
abbrev pub most_bytes : ℕ
most_bytes = 65535

-- the most bytes of a value to be written
abbrev pub most_value : ℕ
most_value = 4080

-- the most bytes of one part of a value: its length is one byte (RFC 2132, section 2)
abbrev pub most_part : ℕ
most_part = 255

-- the two codes that have no length and no value: Pad (RFC 2132, section 3.1)
abbrev pub pad_code : ℕ
pad_code = 0

-- and End (RFC 2132, section 3.2)
abbrev pub end_code : ℕ
end_code = 255

-- 2: a message, area, room or value to be read has more than 65,535 bytes
unfoldable pub too_long : List ℕ → Bool
too_long bytes = ltb most_bytes (length bytes)

-- 1: the message has fewer than 240 bytes
unfoldable pub too_short : List ℕ → Bool
too_short message = ltb (length message) least_message

-- 4: a place is past the end
unfoldable pub past_end : ℕ → List ℕ → Bool
past_end place bytes = ltb (length bytes) place

-- 4: an element's index is not below the count
unfoldable pub no_element : ℕ → ℕ → Bool
no_element index count = leb count index

-- 6: the code to be read or written is 0 or 255
unfoldable pub no_code : ℕ → Bool
no_code code = eqb code pad_code || eqb code end_code

-- 7: the whole value to be written has more than 4,080 bytes
unfoldable pub too_much : List ℕ → Bool
too_much value = ltb most_value (length value)

-- 8: the bytes to be written don't fit from the place to the room's end
unfoldable pub no_room : List ℕ → ℕ → List ℕ → Bool
no_room room place bytes = ltb (length room) (place + length bytes)

-- (3 stands in Header, 5 in Walk, 10, 11 and 14 in Values, 9 and 13 in Typed, 12 in Routes, 10 and 12 of a row in Classless, 15 and 16 in
-- Aggregate, 17 in Stream, 18 and 19 in Moves.)

-- a check: the number is given where the test holds
pub data Check : Type 0 where
  check : Bool → ℕ → Check

-- the first check whose test holds refuses; where none does, the answer stands
unfoldable pub checked : {A : Type 0} → List Check → Answer A → Answer A
checked [] answer = answer
checked (check test number ∷ checks) answer = cond test (refused number) (checked checks answer)

-- the number of the first check whose test holds; 0 where none does
unfoldable pub first_refusal : List Check → ℕ
first_refusal [] = 0
first_refusal (check test number ∷ checks) = cond test number (first_refusal checks)

-- the order of the checks; 4 for a place comes fourth, 4 for an index fourteenth; 15 for the options field comes before 16, and 15 for a
-- field that option 52 names behind it
abbrev pub order : List ℕ
order = 2 ∷ 17 ∷ 1 ∷ 4 ∷ 6 ∷ 9 ∷ 13 ∷ 12 ∷ 10 ∷ 18 ∷ 19 ∷ 11 ∷ 14 ∷ 4 ∷ 3 ∷ 7 ∷ 15 ∷ 16 ∷ 15 ∷ 5 ∷ 8 ∷ []
