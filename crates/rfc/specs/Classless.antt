-- Classless routes, read: the reader of code 121 (RFC 3442, "Classless Route Option Format" and "DHCP Client Behavior"; document 02,
-- ticket 6).
-- Assumes nothing.
use Rattle.std.specs.Prelude.{ℕ, zero, suc, ◌+◌, ◌-◌, ◌*◌, ◌/◌, ◌^◌, ◌≤◌, ◌<◌, List, [], ◌∷◌, ◌++◌, length, take, drop, ltb}
use Rattle.facts.specs.BigEndian.{number}
use Rattle.rfc.specs.Numbers.{Answer, given, refused, and_then, Check, check, checked, too_long, past_end}
use Rattle.rfc.specs.Routes.{Route, most_width, significant}

-- an address with the bits behind its first `width` ones put to zero (RFC 3442, "DHCP Client Behavior")
unfoldable pub masked : ℕ → ℕ → ℕ
masked width address = address / 2 ^ (most_width - width) * 2 ^ (most_width - width)

-- a route as it is read
unfoldable pub as_read : Route → Route
as_read r = record { width = r.width; destination = masked r.width r.destination; gateway = r.gateway }

-- a route by its width and the bytes behind it: the significant bytes of the destination, then the gateway
unfoldable pub route_in : ℕ → List ℕ → Route
route_in width rest =
    record {
      width = width;
      destination = masked width (number (take (significant width) rest) * 256 ^ (4 - significant width));
      gateway = number (take 4 (drop (significant width) rest));
    }

-- the numbers of a route fit their fields
abbrev pub Fitting : Route → Type 0
Fitting r = (r.width ≤ most_width) × (r.destination < 2 ^ 32) × (r.gateway < 2 ^ 32)

-- how many bytes of a row stand behind its width
unfoldable pub behind_width : ℕ → ℕ
behind_width width = significant width + 4

-- 12: the width is above 32; 10: the row is cut
unfoldable pub row_checks : ℕ → List ℕ → List Check
row_checks width rest = check (ltb most_width width) 12 ∷ check (ltb (length rest) (behind_width width)) 10 ∷ []

-- a row of a value: its checks, and its route where none of them refuses
pub record RouteRow : Type 0 where
  pub checks : List Check
  pub route : Route

-- the rows of a value, looking at no more than so many. What stands behind a row that is refused is no row, but the first refusal decides
unfoldable pub route_rows_in : ℕ → List ℕ → List RouteRow
route_rows_in zero v = []
route_rows_in (suc k) [] = []
route_rows_in (suc k) (width ∷ rest) =
    record { checks = row_checks width rest; route = route_in width rest } ∷ route_rows_in k (drop (behind_width width) rest)

-- a row has five bytes or more, so there are no more rows than bytes
unfoldable pub route_rows : List ℕ → List RouteRow
route_rows v = route_rows_in (length v) v

unfoldable pub all_row_checks : List RouteRow → List Check
all_row_checks [] = []
all_row_checks (r ∷ rs) = r.checks ++ all_row_checks rs

unfoldable pub all_routes : List RouteRow → List Route
all_routes [] = []
all_routes (r ∷ rs) = r.route ∷ all_routes rs

-- the reader of code 121: all routes of a value, in their order; the first bad row decides
unfoldable pub read_routes : List ℕ → Answer (List Route)
read_routes v = checked (check (too_long v) 2 ∷ all_row_checks (route_rows v)) (given (all_routes (route_rows v)))

-- the route at an index; 4: the index is not below the count
unfoldable pub nth : ℕ → List Route → Answer Route
nth index [] = refused 4
nth zero (r ∷ rs) = given r
nth (suc index) (r ∷ rs) = nth index rs

unfoldable pub route_at : ℕ → List ℕ → Answer Route
route_at index v = and_then (read_routes v) (nth index)

-- what begins at a place of a value: nothing more, or a route that ends before another place
pub data RouteThere : Type 0 where
  no_route : RouteThere
  route : Route → ℕ → RouteThere

unfoldable pub route_ahead : ℕ → List ℕ → Answer RouteThere
route_ahead place [] = given no_route
route_ahead place (width ∷ rest) = checked (row_checks width rest) (given (route (route_in width rest) (place + (1 + behind_width width))))

unfoldable pub route_from : List ℕ → ℕ → Answer RouteThere
route_from v place = checked (check (too_long v) 2 ∷ check (past_end place v) 4 ∷ []) (route_ahead place (drop place v))
