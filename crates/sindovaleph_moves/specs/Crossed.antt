-- The reader's answers as plain numbers.
-- Assumes nothing.
use Rattle.std.specs.Prelude.{ℕ, true, false, List}
use Rattle.rfc.specs.Numbers.{Answer, given, refused, needs}
use Rattle.rfc.specs.Routes.{Route}
use Rattle.rfc.specs.Classless.{RouteThere, no_route, route}
use Rattle.classless.specs.Rows.{how_many}
use Rattle.sindovaleph_moves.specs.declared.answers.ReadRoute.{ReadRoute}
use Rattle.sindovaleph_moves.specs.declared.answers.RouteCount.{RouteCount}

-- no route at a place: there is none, or it is refused
abbrev pub none_at : ℕ → ℕ → ReadRoute
none_at number place = record { refused = number; found = false; width = 0; destination = 0; gateway = 0; place = place }

-- a route that ends before a place
abbrev pub found_to : Route → ℕ → ReadRoute
found_to r place =
    record { refused = 0; found = true; width = r.width; destination = r.destination; gateway = r.gateway; place = place }

-- what begins at a place
abbrev pub route_here : ℕ → Answer RouteThere → ReadRoute
route_here place (given no_route) = none_at 0 place
route_here place (given (route r to)) = found_to r to
route_here place (refused number) = none_at number place
route_here place (needs len) = none_at 5 place

-- the route at an index
abbrev pub index_here : Answer Route → ReadRoute
index_here (given r) = found_to r 0
index_here (refused number) = none_at number 0
index_here (needs len) = none_at 5 0

-- how many routes there are
abbrev pub count_of : Answer ℕ → RouteCount
count_of (given n) = record { refused = 0; count = n }
count_of (refused number) = record { refused = number; count = 0 }
count_of (needs len) = record { refused = 5; count = 0 }

abbrev pub count_here : Answer (List Route) → RouteCount
count_here routes = count_of (how_many routes)
