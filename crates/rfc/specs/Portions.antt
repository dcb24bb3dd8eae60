-- The parts of options that a field of a message holds, each where it stands (RFC 3396, sections 5 and 6; RFC 2132, section 2;
-- document 02, ticket 1).
-- Assumes nothing.
use Rattle.std.specs.Prelude.{ℕ, suc, zero, ◌+◌, Bool, true, false, cond, eqb, leb, length, take, drop}
use mathlib.Core.List.{List, [], ◌∷◌, map, flatten}
use Rattle.rfc.specs.Numbers.{pad_code, end_code}

-- a part of an option ("split portion", RFC 3396, section 6): its code, its value, and the place behind it
pub record Portion : Type 0 where
  pub code : ℕ
  pub value : List ℕ
  pub place : ℕ

abbrev pub portion : ℕ → List ℕ → ℕ → Portion
portion code value place = record { code = code; value = value; place = place }

-- what stands first from a place on: no part, a part that is cut, or a whole part and the bytes behind it
pub data Next : Type 0 where
  no_more cut_part : Next
  next : Portion → List ℕ → Next

-- behind a code: its length byte is at the place `at` (RFC 2132, section 2)
unfoldable pub behind_code : ℕ → ℕ → List ℕ → Next
behind_code code at [] = cut_part
behind_code code at (n ∷ rest) =
    cond (leb n (length rest)) (next (portion code (take n rest) (at + 1 + n)) (drop n rest)) cut_part

-- from the place `at`, with the bytes from there on: Pads are skipped (RFC 2132, section 3.1), and "each field ends at its End or its last
-- byte" (ticket 1)
unfoldable pub next_portion : ℕ → List ℕ → Next
next_portion at [] = no_more
next_portion at (b ∷ rest) =
    cond (eqb b pad_code) (next_portion (at + 1) rest) (cond (eqb b end_code) no_more (behind_code b (at + 1) rest))

-- a field, read: one of its parts is cut, or these are its parts, in their order
pub data Portions : Type 0 where
  cut_field : Portions
  whole : List Portion → Portions

-- a part in front of the others of its field
unfoldable pub ahead : Portion → Portions → Portions
ahead p cut_field = cut_field
ahead p (whole ps) = whole (p ∷ ps)

-- what stands first, and what is read behind it
unfoldable pub goes_on : Next → (ℕ → List ℕ → Portions) → Portions
goes_on no_more more = whole []
goes_on cut_part more = cut_field
goes_on (next p rest) more = ahead p (more p.place rest)

-- part after part from the place `at` on, no more than so many
unfoldable pub portions_in : ℕ → ℕ → List ℕ → Portions
portions_in zero at rest = whole []
portions_in (suc k) at rest = goes_on (next_portion at rest) (portions_in k)

-- a field that begins at a place, read; a part takes two bytes or more, so a field has no more parts than bytes
unfoldable pub portions : ℕ → List ℕ → Portions
portions at field = portions_in (length field) at field

unfoldable pub is_cut : Portions → Bool
is_cut cut_field = true
is_cut (whole ps) = false

-- the parts of a field; of one that is cut there are none
unfoldable pub parts_in : Portions → List Portion
parts_in cut_field = []
parts_in (whole ps) = ps

-- the parts of one code, in their order
unfoldable pub of_code : ℕ → List Portion → List Portion
of_code code [] = []
of_code code (p ∷ ps) = cond (eqb p.code code) (p ∷ of_code code ps) (of_code code ps)

-- their values joined (RFC 3396, section 7)
unfoldable pub joined_value : List Portion → List ℕ
joined_value ps = flatten (map (λ (p : Portion). p.value) ps)
