-- What a lent table of routes says.
-- Assumes nothing.
use lib.Dec.{lit<}
use Rattle.std.specs.Prelude.{List, [], ◌∷◌, map, ltb}
use Rattle.rfc.specs.Numbers.{check}
use Rattle.rfc.specs.Routes as rfc
use Rattle.rfc.specs.Strung.{RowMade}
use Rattle.laying.specs.Passes.{EachKnown}
use Rattle.classless.specs.Rows.{route_of}
use Rattle.classless.specs.declared.Route.{Route}

unfoldable pub rows_of : List Route → List rfc.Route
rows_of table = map route_of table

-- what is made of one: 12, and its bytes
unfoldable pub made_of : Route → RowMade
made_of r = record { checks = check (ltb rfc.most_width r.width) 12 ∷ []; bytes = rfc.route_bytes (route_of r) }

pub made_known : (rs : List Route) → EachKnown (map made_of rs)
unfolding made_of
made_known [] = tt
made_known (r ∷ rs) = (((lit< tt, lit< tt), tt), made_known rs)
