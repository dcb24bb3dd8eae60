-- What document 01 promises of typed reading: "What strict accepts, plain reads alike", and of code 2, whose four bytes "become an i32,
-- exact at -1 and both ends, and are written back".
-- Assumes nothing.
use Rattle.std.specs.Prelude.{ℕ, ◌≡◌, List, ℤ, length}
use Rattle.facts.specs.BigEndian.{digits, unsigned}
use Rattle.rfc.specs.Numbers.{given}
use Rattle.rfc.specs.Values.{integer, Value, Mode, plain, strict, read}
use Rattle.rfc.specs.Typed.{Seconds}
use Rattle.rfc.specs.Lists.{Bytes}

-- the refusals of strict reading come on top: no value is read in another way
abbrev pub StrictReadsAlike : Type 0
StrictReadsAlike = (code : ℕ) (v : List ℕ) (value : Value) → read strict code v ≡ given value → read plain code v ≡ given value

-- a number's four bytes read as it, in both modes
abbrev pub SecondsReadBack : Type 0
SecondsReadBack = (mode : Mode) (z : ℤ) → Seconds z → read mode 2 (digits 4 (unsigned z)) ≡ given (record { kind = 9; content = integer z })

-- and what four bytes read as has these four bytes
abbrev pub SecondsWriteBack : Type 0
SecondsWriteBack =
    (mode : Mode) (v : List ℕ) (z : ℤ) → Bytes v → length v ≡ 4 → read mode 2 v ≡ given (record { kind = 9; content = integer z })
    → digits 4 (unsigned z) ≡ v
