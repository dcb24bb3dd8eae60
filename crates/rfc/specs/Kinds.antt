-- The kind of each option code, and the bytes in one element of a kind (RFC 2132, sections 3 to 9, and the RFCs of later codes; document
-- 01, "Kinds of value").
-- Assumes nothing.
use Rattle.std.specs.Prelude.{ℕ, List, [], ◌∷◌, ◌++◌, map, get_or}
use Rattle.facts.specs.Ranges.{Row, row, lookup}

-- codes that stand together in the document's table: one of them, or all from the first to the second
pub data Codes : Type 0 where
  only : ℕ → Codes
  from : ℕ → ℕ → Codes

abbrev pub row_of : ℕ → Codes → Row ℕ
row_of kind (only code) = row code code kind
row_of kind (from low high) = row low high kind

-- a kind has these codes
abbrev pub has : ℕ → List Codes → List (Row ℕ)
has kind codes = map (row_of kind) codes

-- the document's table. Sections are of RFC 2132, where no other RFC is named
unfoldable pub kinds : List (Row ℕ)
kinds =
    -- address (3.3, 3.18, 5.3, 5.7, 9.1, 9.7; RFC 3011, section 2; RFC 5859, section 3, which has a list in 150)
    has 1 (only 1 ∷ only 16 ∷ only 28 ∷ only 32 ∷ only 50 ∷ only 54 ∷ only 118 ∷ only 150 ∷ [])
    -- addresses (3.5 to 3.13, 8.2, 8.3, 8.5, 8.6, 8.9, 8.10, 8.12 to 8.21; RFC 4280, section 4.3; RFC 4388, section 6.1)
    ++ has 2 (from 3 11 ∷ only 41 ∷ only 42 ∷ only 44 ∷ only 45 ∷ only 48 ∷ only 49 ∷ only 65 ∷ from 68 76 ∷ [])
    ++ has 2 (only 89 ∷ only 92 ∷ [])
    -- pairs of addresses (4.3, 5.8)
    ++ has 3 (only 21 ∷ only 33 ∷ [])
    -- byte (4.5, 7.1, 9.3)
    ++ has 4 (only 23 ∷ only 37 ∷ only 52 ∷ [])
    -- yes/no (4.1, 4.2, 5.2, 5.4, 5.5, 5.6, 6.1, 6.3, 7.3)
    ++ has 5 (only 19 ∷ only 20 ∷ only 27 ∷ only 29 ∷ only 30 ∷ only 31 ∷ only 34 ∷ only 36 ∷ only 39 ∷ [])
    -- u16 (3.15, 4.4, 5.1, 9.10; RFC 4578, section 2.1, which has a list in 93)
    ++ has 6 (only 13 ∷ only 22 ∷ only 26 ∷ only 57 ∷ only 93 ∷ [])
    -- u16 list (4.7)
    ++ has 7 (only 25 ∷ [])
    -- u32 (4.6, 6.2, 7.2, 9.2, 9.11, 9.12; RFC 4388, section 6.1; RFC 6926, sections 6.2.3 to 6.2.6). 106 is the crate's and the
    -- document's: RFC 8925, section 3.1, has IPv6-Only Preferred at 108, which is raw here
    ++ has 8 (only 24 ∷ only 35 ∷ only 38 ∷ only 51 ∷ only 58 ∷ only 59 ∷ only 91 ∷ only 106 ∷ from 152 155 ∷ [])
    -- i32 (3.4)
    ++ has 9 (only 2 ∷ [])
    -- text (3.14, 3.16, 3.17, 3.19, 3.20, 8.1, 8.8, 9.9, 8.11; RFC 2242, section 2; RFC 4833, section 2; RFC 8910, section 2.1)
    ++ has 10 (only 12 ∷ only 14 ∷ only 15 ∷ only 17 ∷ only 18 ∷ only 40 ∷ only 47 ∷ only 56 ∷ only 62 ∷ only 64 ∷ [])
    ++ has 10 (only 100 ∷ only 101 ∷ only 114 ∷ [])
    -- codes (9.8)
    ++ has 11 (only 55 ∷ [])
    -- node type (8.7)
    ++ has 12 (only 46 ∷ [])
    -- message type (9.6)
    ++ has 13 (only 53 ∷ [])
    -- three bytes (RFC 4578, section 2.2)
    ++ has 14 (only 94 ∷ [])
    -- flag (RFC 4039, section 4)
    ++ has 15 (only 80 ∷ [])

-- the kind of a code; every other code is raw, kind 0
unfoldable pub kind_of : ℕ → ℕ
kind_of code = lookup 0 kinds code

-- the bytes in one element, by kind 0 to 15
unfoldable pub sizes : List ℕ
sizes = 1 ∷ 4 ∷ 4 ∷ 8 ∷ 1 ∷ 1 ∷ 2 ∷ 2 ∷ 4 ∷ 4 ∷ 1 ∷ 1 ∷ 1 ∷ 1 ∷ 3 ∷ 0 ∷ []

unfoldable pub size_of : ℕ → ℕ
size_of kind = get_or sizes kind 0
