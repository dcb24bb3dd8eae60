-- How a value is written in parts, and what a write answers and leaves (RFC 2132, section 2; RFC 3396, section 6; document 01,
-- "Writing").
-- Assumes nothing.
use Rattle.std.specs.Prelude.{ℕ, ◌+◌, ◌-◌, ◌*◌, ◌/◌, min, List, [], ◌∷◌, ◌++◌, length}
use Rattle.facts.specs.Over.{over}
use Rattle.facts.specs.Pieces.{pieces}
use Rattle.rfc.specs.Numbers.{Answer, given, refused, needs, Check, check, checked, most_part, end_code, too_long, past_end, no_code, too_much, no_room}

-- a part for each piece: the code, the piece's length, the piece (RFC 2132, section 2)
unfoldable pub parts_of : ℕ → List (List ℕ) → List ℕ
parts_of code [] = []
parts_of code (p ∷ ps) = code ∷ length p ∷ (p ++ parts_of code ps)

-- a value in parts of so many bytes, the last one shorter (RFC 3396, section 6); an empty value is no part (document 01)
unfoldable pub encode : ℕ → ℕ → List ℕ → List ℕ
encode size code v = parts_of code (pieces size v)

-- how many bytes a value of so many takes in such parts: its own, and two for each part
abbrev pub size_in_parts : ℕ → ℕ → ℕ
size_in_parts size len = len + 2 * ((len + (size - 1)) / size)

-- how many of the bytes that are left the next part takes
abbrev pub next_part : ℕ → ℕ → ℕ
next_part size left = min size left

-- a write into a room at a place (document 01): its checks, in their order, and the bytes that it puts there
pub record Write : Type 0 where
  pub checks : List Check
  pub bytes : List ℕ

-- that the bytes fit is checked last
unfoldable pub write_checks : Write → List ℕ → ℕ → List Check
write_checks w room place = w.checks ++ check (no_room room place w.bytes) 8 ∷ []

-- what a write answers: the place behind its bytes, or the first refusal
unfoldable pub answer_to : Write → List ℕ → ℕ → Answer ℕ
answer_to w room place = checked (write_checks w room place) (given (place + length w.bytes))

-- what the room then holds: a refusal changes nothing, and a success exactly the bytes from the old place to the new one
unfoldable pub room_left : Answer ℕ → List ℕ → ℕ → List ℕ → List ℕ
room_left (given next) room place bytes = over room place bytes
room_left (refused k) room place bytes = room
room_left (needs n) room place bytes = room

unfoldable pub room_after : Write → List ℕ → ℕ → List ℕ
room_after w room place = room_left (answer_to w room place) room place w.bytes

-- some bytes as they stand, into any lent buffer
unfoldable pub write_slice : List ℕ → List ℕ → ℕ → Write
write_slice bytes room place = record { checks = check (past_end place room) 4 ∷ []; bytes = bytes }

-- a byte value, to any code from 1 to 254: parts of 255 bytes
unfoldable pub write_bytes : ℕ → List ℕ → List ℕ → ℕ → Write
write_bytes code v room place =
    record {
      checks = check (too_long room) 2 ∷ check (past_end place room) 4 ∷ check (no_code code) 6 ∷ check (too_much v) 7 ∷ [];
      bytes = encode most_part code v;
    }

-- some bytes as they stand, into a room
unfoldable pub into_room : List ℕ → List ℕ → ℕ → Write
into_room bytes room place = record { checks = check (too_long room) 2 ∷ check (past_end place room) 4 ∷ []; bytes = bytes }

-- End (RFC 2132, section 3.2)
unfoldable pub close : List ℕ → ℕ → Write
close room place = into_room (end_code ∷ []) room place
