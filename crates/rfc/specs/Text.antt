-- UTF-8: the syntax of UTF8-octets, a row for each form of a character (RFC 3629, section 4).
-- Assumes nothing.
use Rattle.std.specs.Prelude.{ℕ, Bool, true, false, cond, List, [], ◌∷◌}
use Rattle.std.proofs.Math.Option.{Option, none, some}
use Rattle.facts.specs.Ranges.{Row, row, lookup, within}

-- a byte from the first number to the second
pub data Range : Type 0 where
  range : ℕ → ℕ → Range

-- UTF8-tail = %x80-BF
abbrev pub tail : Range
tail = range 0x80 0xbf

-- UTF8-1 to UTF8-4: the first byte of each form, and what has to follow it
unfoldable pub forms : List (Row (Option (List Range)))
forms =
    row 0x00 0x7f (some [])
    ∷ row 0xc2 0xdf (some (tail ∷ []))
    ∷ row 0xe0 0xe0 (some (range 0xa0 0xbf ∷ tail ∷ []))
    ∷ row 0xe1 0xec (some (tail ∷ tail ∷ []))
    ∷ row 0xed 0xed (some (range 0x80 0x9f ∷ tail ∷ []))
    ∷ row 0xee 0xef (some (tail ∷ tail ∷ []))
    ∷ row 0xf0 0xf0 (some (range 0x90 0xbf ∷ tail ∷ tail ∷ []))
    ∷ row 0xf1 0xf3 (some (tail ∷ tail ∷ tail ∷ []))
    ∷ row 0xf4 0xf4 (some (range 0x80 0x8f ∷ tail ∷ tail ∷ []))
    ∷ []

-- what has to follow a first byte; none where no form begins with it
unfoldable pub lead : ℕ → Option (List Range)
lead b = lookup none forms b

-- what has to follow one byte more, where so much had to follow; none where the byte is wrong, or one before it was
unfoldable pub owes : Option (List Range) → ℕ → Option (List Range)
owes none b = none
owes (some []) b = lead b
owes (some (range low high ∷ ranges)) b = cond (within low high b) (some ranges) none

-- whether a text may end where so much has to follow
unfoldable pub whole : Option (List Range) → Bool
whole none = false
whole (some []) = true
whole (some (r ∷ ranges)) = false

unfoldable pub utf8_from : Option (List Range) → List ℕ → Bool
utf8_from owed [] = whole owed
utf8_from owed (b ∷ bs) = utf8_from (owes owed b) bs

-- UTF8-octets = *( UTF8-char )
unfoldable pub utf8 : List ℕ → Bool
utf8 text = utf8_from (some []) text
