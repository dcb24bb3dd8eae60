-- Profiles moved from static routes, option 33 (RFC 2132, section 5.8), to classless ones, option 121 (RFC 3442), and back (document 02,
-- ticket 6).
-- Assumes nothing.
use Rattle.std.specs.Prelude.{ℕ, ◌/◌, ◌^◌, Bool, cond, not, ◌||◌, List, [], ◌∷◌, ◌++◌, map, length, take, drop, eqb, ltb}
use Rattle.facts.specs.BigEndian.{digits, number}
use Rattle.facts.specs.Pieces.{pieces}
use Rattle.facts.specs.Ranges.{Row, row, lookup}
use Rattle.rfc.specs.Numbers.{Answer, Check, check, most_part, too_long, past_end}
use Rattle.rfc.specs.Values.{multiple, breaks}
use Rattle.rfc.specs.Kinds.{size_of}
use Rattle.rfc.specs.Writing.{Write}
use Rattle.rfc.specs.Typed.{part_size}
use Rattle.rfc.specs.Routes.{Route, routes_code, most_width, route_bytes}
use Rattle.rfc.specs.Classless.{masked, RouteRow, route_rows}
use Rattle.rfc.specs.Strung.{RowMade, strung, write_strung}

abbrev pub pairs_code : ℕ
pairs_code = 33

-- an address's first octet
abbrev pub octet : ℕ → ℕ
octet address = address / 2 ^ 24

-- our rule: the width that goes with a first octet
unfoldable pub classes : List (Row ℕ)
classes = row 0 127 8 ∷ row 128 191 16 ∷ row 192 223 24 ∷ []

-- a destination has that width if all octets behind it are zero, otherwise 32
unfoldable pub width_for : ℕ → ℕ
width_for destination =
    let width : ℕ = lookup most_width classes (octet destination) in
    cond (eqb (masked width destination) destination) width most_width

-- 18: the destination is 0.0.0.0, which is none of option 33 (RFC 2132, section 5.8), or its first octet is above 223
unfoldable pub barred : ℕ → Bool
barred destination = eqb destination 0 || ltb 223 (octet destination)

-- a destination and its router as a route
unfoldable pub pair_route : ℕ → ℕ → Route
pair_route destination router = record { width = width_for destination; destination = destination; gateway = router }

-- what is made of such a route: 18, and its bytes
unfoldable pub route_out : Route → RowMade
route_out r = record { checks = check (barred r.destination) 18 ∷ []; bytes = route_bytes r }

-- a pair of option 33, eight bytes, moved out
unfoldable pub pair_out : List ℕ → RowMade
pair_out pair = route_out (pair_route (number (take 4 pair)) (number (drop 4 pair)))

unfoldable pub out_rows : List ℕ → List RowMade
out_rows v = map pair_out (pieces (size_of 3) v)

-- a value of option 33 as one of option 121
unfoldable pub outward : List ℕ → Answer (List ℕ)
outward v = strung (out_rows v)

-- 18; then 19: the rule gives the destination another width
unfoldable pub old_form_checks : Route → List Check
old_form_checks r = check (barred r.destination) 18 ∷ check (not (eqb (width_for r.destination) r.width)) 19 ∷ []

-- a row of option 121, moved back
unfoldable pub row_back : RouteRow → RowMade
row_back r =
    record {
      checks = r.checks ++ old_form_checks r.route;
      bytes = digits 4 r.route.destination ++ digits 4 r.route.gateway;
    }

unfoldable pub back_rows : List ℕ → List RowMade
back_rows v = map row_back (route_rows v)

-- a value of option 121 as one of option 33
unfoldable pub backward : List ℕ → Answer (List ℕ)
backward v = strung (back_rows v)

-- what is lent to a move: a value and a room
unfoldable pub lent_checks : List ℕ → List ℕ → ℕ → List Check
lent_checks v room place = check (too_long v || too_long room) 2 ∷ check (past_end place room) 4 ∷ []

-- 10: the value is no list of whole pairs
unfoldable pub pairs_checks : List ℕ → List Check
pairs_checks v = check (breaks multiple (size_of 3) (length v)) 10 ∷ []

-- a value of option 33, written as option 121, which is split as a byte value
unfoldable pub move_out : List ℕ → List ℕ → ℕ → Write
move_out v room place =
    write_strung (lent_checks v room place ++ pairs_checks v) most_part routes_code (out_rows v)

-- a value of option 121, written as option 33, which is cut at whole pairs
unfoldable pub move_back : List ℕ → List ℕ → ℕ → Write
move_back v room place = write_strung (lent_checks v room place) (part_size 3) pairs_code (back_rows v)
