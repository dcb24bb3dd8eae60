-- What the reader of this crate answers, in the words of the definitions.
-- Assumes nothing.
use Rattle.std.specs.Prelude.{ℕ, ◌≡◌, List, length, Option, Some, None, Result, Ok, Err}
use Rattle.rfc.specs.Numbers.{Answer, given, refused, and_then}
use Rattle.rfc.specs.Routes as rfc
use Rattle.rfc.specs.Classless.{RouteThere, no_route, route, read_routes, route_at, route_from}
use Rattle.refusal.specs.declared.Refusal.{Refusal}
use Rattle.refusal.specs.Told.{says}
use Rattle.classless.specs.declared.Route.{Route}
use Rattle.classless.specs.declared.Row.{Row}
use Rattle.classless.specs.declared.Scan.{Scan}

-- what is told of an answer, with what was given in other words
abbrev pub told_by : {A B : Type 0} → (A → B) → Result A Refusal → Answer B
told_by f (Ok x) = given (f x)
told_by f (Err e) = says e

-- a route of the code as one of the definitions
abbrev pub route_of : Route → rfc.Route
route_of r = record { width = r.width; destination = r.destination; gateway = r.gateway }

-- what begins at a place
abbrev pub there : Option Row → RouteThere
there None = no_route
there (Some row) = route (route_of row.route) row.place

-- how many routes there are
unfoldable pub how_many : Answer (List rfc.Route) → Answer ℕ
how_many routes = and_then routes (λ (rs : List rfc.Route). given (length rs))

-- the route that begins at a place; 4: there is none
abbrev pub route_there : RouteThere → Answer rfc.Route
route_there no_route = refused 4
route_there (route r to) = given r

-- a scan of a value says what the reader says: how many routes there are, and by its place the one at the index
abbrev pub Placed : ℕ → List ℕ → Result Scan Refusal → Type 0
Placed index v (Ok s) = and_then (route_from v s.place) route_there ≡ route_at index v
Placed index v (Err e) = says e ≡ route_at index v

pub record Scanned (index : ℕ) (v : List ℕ) (r : Result Scan Refusal) : Type 0 where
  pub count : told_by (λ (s : Scan). s.count) r ≡ how_many (read_routes v)
  pub placed : Placed index v r
