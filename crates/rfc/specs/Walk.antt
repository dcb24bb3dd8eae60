-- One call of the walk over an area of options, from a place (RFC 2132, section 2; RFC 3396, section 7, of parts that are neighbours;
-- document 01, "Walking the area").
-- Assumes nothing.
use Rattle.std.specs.Prelude.{ℕ, suc, zero, ◌+◌, ◌*◌, List, [], ◌∷◌, ◌++◌, cond, length, take, drop, eqb, leb}
use Rattle.facts.specs.Over.{over}
use Rattle.rfc.specs.Numbers.{Answer, given, refused, needs, Check, check, checked, pad_code, end_code, too_long, past_end}

-- the five stops (document 01)
pub data Stop : Type 0 where
  out end cut_length cut_value cut_continuation : Stop

-- what a call finds: a stop and the place behind it (document 01); or an option: its code, its values joined, how many parts it has, and
-- the place behind the last
pub data Found : Type 0 where
  stop : Stop → ℕ → Found
  option : ℕ → List ℕ → ℕ → ℕ → Found

-- the further parts of an option (RFC 3396, section 7): one of them is cut, or so many with these values joined
pub data Run : Type 0 where
  cut : Run
  run : ℕ → List ℕ → Run

-- a part with this value in front of a run
unfoldable pub extend : List ℕ → Run → Run
extend v cut = cut
extend v (run n vs) = run (suc n) (v ++ vs)

-- the parts of `code` that a list begins with, looking at no more than so many. A part is its code, the length of its value and the value
-- (RFC 2132, section 2)
unfoldable pub further_in : ℕ → ℕ → List ℕ → Run
further_in zero code rest = run 0 []
further_in (suc k) code [] = run 0 []
further_in (suc k) code (b ∷ []) = cond (eqb b code) cut (run 0 [])
further_in (suc k) code (b ∷ n ∷ rest) =
    cond (eqb b code) (cond (leb n (length rest)) (extend (take n rest) (further_in k code (drop n rest))) cut) (run 0 [])

-- the parts of `code` that a list begins with; each takes two bytes or more, so there are no more than the list has bytes
unfoldable pub further : ℕ → List ℕ → Run
further code rest = further_in (length rest) code rest

-- the first part is complete, has the value v and ends at the place `at`; the values are joined in their order (RFC 3396, section 7)
unfoldable pub joined : ℕ → List ℕ → ℕ → Run → Found
joined code v at cut = stop cut_continuation at
joined code v at (run n vs) = option code (v ++ vs) (n + 1) (at + (2 * n + length vs))

-- behind a code: its length byte is at the place `at` (RFC 2132, section 2)
unfoldable pub behind : ℕ → ℕ → List ℕ → Found
behind code at [] = stop cut_length at
behind code at (n ∷ rest) =
    cond (leb n (length rest)) (joined code (take n rest) (at + 1 + n) (further code (drop n rest))) (stop cut_value (at + 1))

-- from the place `at`, with the bytes from there on: Pads are skipped, and End stops (RFC 2132, sections 3.1 and 3.2)
unfoldable pub walk : ℕ → List ℕ → Found
walk at [] = stop out at
walk at (b ∷ rest) =
    cond (eqb b pad_code) (walk (at + 1) rest) (cond (eqb b end_code) (stop end (at + 1)) (behind b (at + 1) rest))

-- 5: an option of two or more parts is refused where its value is longer than the room to join in
unfoldable pub room_for : ℕ → Found → Answer Found
room_for room (stop s at) = given (stop s at)
room_for room (option code v n at) =
    cond (leb n 1) (given (option code v n at)) (cond (leb (length v) room) (given (option code v n at)) (needs (length v)))

unfoldable pub step_checks : List ℕ → ℕ → List Check
step_checks area place = check (too_long area) 2 ∷ check (past_end place area) 4 ∷ []

-- what a call finds, whatever room there is to join in
unfoldable pub look : List ℕ → ℕ → Answer Found
look area place = checked (step_checks area place) (given (walk place (drop place area)))

-- one call, on any area, from any place, with so much room to join in (document 01)
unfoldable pub step : List ℕ → ℕ → ℕ → Answer Found
step area place room = checked (step_checks area place) (room_for room (walk place (drop place area)))

-- what the join buffer then holds: with two or more parts its first bytes are the value, and else nothing changes
unfoldable pub join_after : Answer Found → List ℕ → List ℕ
join_after (given (stop s at)) join = join
join_after (given (option code v n at)) join = cond (leb n 1) join (over join 0 v)
join_after (refused k) join = join
join_after (needs n) join = join

-- where a walk goes on after a call from a place: a refusal moves nothing
unfoldable pub place_after : Answer Found → ℕ → ℕ
place_after (given (stop s at)) place = at
place_after (given (option code v n at)) place = at
place_after (refused k) place = place
place_after (needs n) place = place
