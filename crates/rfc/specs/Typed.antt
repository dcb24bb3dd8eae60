-- How a typed value is written: its bytes by its kind (RFC 2132, sections 3 to 9), lists cut at whole elements (document 01, "Writing");
-- and what the values of each kind are.
-- Assumes nothing.
use Rattle.std.specs.Prelude.{ℕ, ◌*◌, ◌/◌, ◌%◌, ◌^◌, ◌<◌, ◌≡◌, Bool, cond, not, ◌&&◌, ℤ, pos, negsuc, length, eqb}
use mathlib.Core.List.{List, [], ◌∷◌, ◌++◌, map, flatten}
use Rattle.facts.specs.BigEndian.{digits, unsigned}
use Rattle.rfc.specs.Numbers.{Check, check, most_part, too_long, past_end, no_code, too_much}
use Rattle.rfc.specs.Kinds.{kind_of, size_of}
use Rattle.rfc.specs.Values.{Content, raw, natural, integer, truth, numbers, nothing, Value, width_of, not_text}
use Rattle.rfc.specs.Writing.{Write, encode}

-- numbers as so many bytes each, one behind the other
unfoldable pub digits_of : ℕ → List ℕ → List ℕ
digits_of width l = flatten (map (digits width) l)

-- a typed value's bytes; yes writes 1, no writes 0
abbrev pub bytes_in : ℕ → Content → List ℕ
bytes_in kind (raw v) = v
bytes_in kind (natural n) = digits (size_of kind) n
bytes_in kind (integer z) = digits (size_of kind) (unsigned z)
bytes_in kind (truth b) = cond b 1 0 ∷ []
bytes_in kind (numbers l) = digits_of (width_of kind) l
bytes_in kind nothing = []

abbrev pub bytes_of : Value → List ℕ
bytes_of value = bytes_in value.kind value.content

-- the most bytes of one part of a kind: as many whole elements as 255 bytes hold (document 01; RFC 3396, section 6, allows any cut)
unfoldable pub part_size : ℕ → ℕ
part_size kind = most_part / size_of kind * size_of kind

-- bytes of a kind, in parts of whole elements; a flag is one part with no value (RFC 4039, section 4)
unfoldable pub encode_kind : ℕ → ℕ → List ℕ → List ℕ
encode_kind kind code v = cond (eqb kind 15) (code ∷ 0 ∷ []) (encode (part_size kind) code v)

-- 9: a typed write names a code of another kind
unfoldable pub other_kind : ℕ → ℕ → Bool
other_kind kind code = not (eqb (kind_of code) kind)

-- 13: a pair list has an odd number of addresses, so that its bytes are no whole pairs
unfoldable pub odd_pairs : ℕ → List ℕ → Bool
odd_pairs kind v = eqb kind 3 && not (eqb (length v % size_of 3) 0)

-- the checks of the room, the place and the code, alike for every typed write
unfoldable pub code_checks : ℕ → ℕ → List ℕ → ℕ → List Check
code_checks kind code room place =
    check (too_long room) 2 ∷ check (past_end place room) 4 ∷ check (no_code code) 6 ∷ check (other_kind kind code) 9 ∷ []

-- those of the value's bytes
unfoldable pub value_checks : ℕ → List ℕ → List Check
value_checks kind v = check (odd_pairs kind v) 13 ∷ check (not_text kind v) 11 ∷ check (too_much v) 7 ∷ []

-- the bytes of a value of a kind, to a code of that kind
unfoldable pub write_kind : ℕ → ℕ → List ℕ → List ℕ → ℕ → Write
write_kind kind code v room place =
    record { checks = code_checks kind code room place ++ value_checks kind v; bytes = encode_kind kind code v }

-- a typed value, to a code of its kind
unfoldable pub write_value : ℕ → Value → List ℕ → ℕ → Write
write_value code value room place = write_kind value.kind code (bytes_of value) room place

-- every number of a list is below a bound
abbrev pub Below : ℕ → List ℕ → Type 0
Below bound [] = Unit {0}
Below bound (n ∷ l) = (n < bound) × Below bound l

-- the numbers from -(2 ^ 31) to 2 ^ 31 - 1; `negsuc n` is -(n + 1)
abbrev pub Seconds : ℤ → Type 0
Seconds (pos n) = n < 2 ^ 31
Seconds (negsuc n) = n < 2 ^ 31

-- what the values of each kind are; of bytes as they stand nothing is asked here, and that text is UTF-8 is checked by the write
pub data Proper : ℕ → Content → Type 0 where
  bytes : (v : List ℕ) → Proper 0 (raw v)
  address : (n : ℕ) → n < 2 ^ 32 → Proper 1 (natural n)
  addresses : (l : List ℕ) → Below (2 ^ 32) l → Proper 2 (numbers l)
  pairs : (l : List ℕ) → Below (2 ^ 32) l → Proper 3 (numbers l)
  byte : (n : ℕ) → n < 2 ^ 8 → Proper 4 (natural n)
  yes_no : (b : Bool) → Proper 5 (truth b)
  u16 : (n : ℕ) → n < 2 ^ 16 → Proper 6 (natural n)
  u16s : (l : List ℕ) → Below (2 ^ 16) l → Proper 7 (numbers l)
  u32 : (n : ℕ) → n < 2 ^ 32 → Proper 8 (natural n)
  i32 : (z : ℤ) → Seconds z → Proper 9 (integer z)
  text : (v : List ℕ) → Proper 10 (raw v)
  codes : (l : List ℕ) → Below (2 ^ 8) l → Proper 11 (numbers l)
  node_type : (n : ℕ) → n < 2 ^ 8 → Proper 12 (natural n)
  message_type : (n : ℕ) → n < 2 ^ 8 → Proper 13 (natural n)
  three_bytes : (a b c : ℕ) → Proper 14 (raw (a ∷ b ∷ c ∷ []))
  flag : Proper 15 nothing

-- a value that has no element: no bytes, or no numbers
pub data Empty : Content → Type 0 where
  no_bytes : Empty (raw [])
  no_numbers : Empty (numbers [])

-- no further part of a code follows: no byte at all, or another one
abbrev pub Apart : ℕ → List ℕ → Type 0
Apart code [] = Unit {0}
Apart code (b ∷ behind) = b ≡ code → ⊥
