-- What the library promises of its typed writers: a value is cut at whole elements, and what one writes and the walk finds again reads as
-- the same value, in plain and in strict mode, for every kind.
-- `Proper` says what the values of each kind are, and `Apart` that no further part of a code follows: one that does would join.
-- Assumes nothing.
use Rattle.std.specs.Prelude.{ℕ, ◌+◌, ◌%◌, ◌≤◌, ◌<◌, ◌≡◌, List, drop}
use Rattle.rfc.specs.Numbers.{given, most_part, most_value}
use Rattle.rfc.specs.Kinds.{size_of}
use Rattle.rfc.specs.Walk.{step}
use Rattle.rfc.specs.Values.{Value, Mode, valued, read_option}
use Rattle.rfc.specs.Writing.{answer_to, room_after, close}
use Rattle.rfc.specs.Typed.{part_size, write_value, Proper, Empty, Apart}

-- the most bytes of a part, for every kind but the flag, which has no element: they are whole elements, no more than 255 bytes, and one
-- element more would pass 255
abbrev pub WholeElements : Type 0
WholeElements =
    (kind : ℕ) → kind < 15
    → (part_size kind % size_of kind ≡ 0) × (part_size kind ≤ most_part) × (most_part < part_size kind + size_of kind)

-- the document's numbers: 63 addresses, 31 pairs, 127 u16s, 255 codes
abbrev pub MostInAPart : Type 0
MostInAPart = (part_size 2 ≡ 252) × (part_size 3 ≡ 248) × (part_size 7 ≡ 254) × (part_size 11 ≡ 255)

-- the room that a typed write leaves
abbrev pub left : ℕ → Value → List ℕ → ℕ → List ℕ
left code value room place = room_after (write_value code value room place) room place

-- where something was written, and no byte or one of another code stands behind it, the walk from the old place with 4,080 bytes to join in
-- finds the value, and the new place
abbrev pub TypedReadsBack : Type 0
TypedReadsBack =
    (mode : Mode) (code : ℕ) (value : Value) (room : List ℕ) (place to join : ℕ)
    → Proper value.kind value.content
    → answer_to (write_value code value room place) room place ≡ given to
    → place < to → Apart code (drop to room)
    → most_value ≤ join
    → read_option mode (step (left code value room place) place join) ≡ given (valued code value to)

-- and so it does where the write is closed with End, whatever stood behind it
abbrev pub ClosedReadsBack : Type 0
ClosedReadsBack =
    (mode : Mode) (code : ℕ) (value : Value) (room : List ℕ) (place to closed join : ℕ)
    → Proper value.kind value.content
    → answer_to (write_value code value room place) room place ≡ given to
    → place < to → most_value ≤ join
    → let after : List ℕ = left code value room place in
    answer_to (close after to) after to ≡ given closed
    → read_option mode (step (room_after (close after to) after to) place join) ≡ given (valued code value to)

-- nothing is written exactly of a value that has no element; a flag, which holds nothing, is written
abbrev pub WritesNothing : Type 0
WritesNothing =
    (code : ℕ) (value : Value) (room : List ℕ) (place to : ℕ)
    → Proper value.kind value.content
    → answer_to (write_value code value room place) room place ≡ given to
    → (to ≡ place → Empty value.content) × (Empty value.content → to ≡ place)
