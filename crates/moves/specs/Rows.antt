-- What is made of a route that is moved back, and that the checks of every row have numbers of a byte, which are not 0.
-- Assumes nothing.
use lib.Dec.{lit<}
use Rattle.std.specs.Prelude.{ℕ, zero, suc, List, [], ◌∷◌, ◌++◌, map, drop, length}
use Rattle.facts.specs.BigEndian.{digits}
use Rattle.facts.specs.Pieces.{pieces}
use Rattle.rfc.specs.Kinds.{size_of}
use Rattle.rfc.specs.Routes.{Route}
use Rattle.rfc.specs.Classless.{row_checks, behind_width, route_rows, route_rows_in}
use Rattle.rfc.specs.Strung.{RowMade}
use Rattle.rfc.specs.Moves.{route_out, pair_out, out_rows, old_form_checks, row_back, back_rows}
use Rattle.laying.specs.Passes.{EachKnown}

-- a row of option 121 by its route alone, moved back
unfoldable pub old_row : Route → RowMade
old_row r = record { checks = old_form_checks r; bytes = digits 4 r.destination ++ digits 4 r.gateway }

pub out_known : (v : List ℕ) → EachKnown (out_rows v)
unfolding out_rows pair_out route_out
out_known v = go (pieces (size_of 3) v)
  where
    go : (ps : List (List ℕ)) → EachKnown (map pair_out ps)
    go [] = tt
    go (p ∷ ps) = (((lit< tt, lit< tt), tt), go ps)

pub back_known : (v : List ℕ) → EachKnown (back_rows v)
unfolding back_rows row_back old_form_checks row_checks route_rows route_rows_in
back_known v = go (length v) v
  where
    go : (k : ℕ) (v : List ℕ) → EachKnown (map row_back (route_rows_in k v))
    go zero v = tt
    go (suc k) [] = tt
    go (suc k) (width ∷ rest) = (((lit< tt, lit< tt), ((lit< tt, lit< tt), ((lit< tt, lit< tt), ((lit< tt, lit< tt), tt)))), go k (drop (behind_width width) rest))
