-- Classless static routes, option 121 (RFC 3442, "Classless Route Option Format"; document 01, "Writing").
-- Assumes nothing.
use Rattle.std.specs.Prelude.{ℕ, ◌+◌, ◌/◌, Bool, false, ◌||◌, List, [], ◌∷◌, ◌++◌, take, ltb}
use Rattle.facts.specs.BigEndian.{digits}
use Rattle.rfc.specs.Numbers.{check, most_part, too_long, past_end, too_much}
use Rattle.rfc.specs.Writing.{Write, encode}

-- a route (RFC 3442, "Classless Route Option Format"): the width of its subnet mask, its destination and its gateway, addresses as numbers
pub record Route : Type 0 where
  pub width : ℕ
  pub destination : ℕ
  pub gateway : ℕ

abbrev pub routes_code : ℕ
routes_code = 121

abbrev pub most_width : ℕ
most_width = 32

-- how many bytes of a destination are significant: ceil(width / 8)
unfoldable pub significant : ℕ → ℕ
significant width = (width + 7) / 8

-- the width, the significant bytes of the destination as they stand, unmasked, and the gateway
unfoldable pub route_bytes : Route → List ℕ
route_bytes r = r.width ∷ (take (significant r.width) (digits 4 r.destination) ++ digits 4 r.gateway)

unfoldable pub routes_bytes : List Route → List ℕ
routes_bytes [] = []
routes_bytes (r ∷ rs) = route_bytes r ++ routes_bytes rs

-- 12: a route's width is above 32
unfoldable pub too_wide : List Route → Bool
too_wide [] = false
too_wide (r ∷ rs) = ltb most_width r.width || too_wide rs

-- all routes joined, then split as a byte value (RFC 3442, "Requirements to Avoid Sizing Constraints")
unfoldable pub write_routes : List Route → List ℕ → ℕ → Write
write_routes rs room place =
    record {
      checks = check (too_long room) 2 ∷ check (past_end place room) 4 ∷ check (too_wide rs) 12 ∷ check (too_much (routes_bytes rs)) 7 ∷ [];
      bytes = encode most_part routes_code (routes_bytes rs);
    }
