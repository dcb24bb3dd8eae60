-- Ticket 6: classless routes, read, and profiles moved from option 33 to 121 and back.
-- Assumes nothing.
use Rattle.std.specs.Prelude.{ℕ, ◌+◌, ◌%◌, ◌≤◌, ◌<◌, ◌≡◌, List, [], ◌++◌, map, length, drop}
use Rattle.facts.specs.Each.{Each}
use Rattle.facts.specs.Over.{over}
use Rattle.rfc.specs.Numbers.{given, refused, most_bytes, most_value}
use Rattle.rfc.specs.Kinds.{size_of}
use Rattle.rfc.specs.Walk.{option, step}
use Rattle.rfc.specs.Writing.{answer_to, room_after}
use Rattle.rfc.specs.Typed.{encode_kind, Apart}
use Rattle.rfc.specs.Routes.{Route, routes_code, routes_bytes}
use Rattle.rfc.specs.Lists.{Bytes}
use Rattle.rfc.specs.Classless.{as_read, Fitting, row_checks, read_routes}
use Rattle.rfc.specs.Moves.{pairs_code, pair_out, row_back, outward, backward, lent_checks, pairs_checks, move_out, move_back}
use Rattle.promises.specs.Order.{InOrder}

-- the reader reads what the table's writer writes, each "destination masked to its width"
abbrev pub RoutesReadBack : Type 0
RoutesReadBack =
    (rs : List Route)
    → Each Fitting rs
    → length (routes_bytes rs) ≤ most_bytes
    → read_routes (routes_bytes rs) ≡ given (map as_read rs)

-- of values: pairs that are moved out without a refusal come back the same, whatever their number
abbrev pub PairsComeBack : Type 0
PairsComeBack = (v moved : List ℕ) → Bytes v → length v % size_of 3 ≡ 0 → outward v ≡ given moved → backward moved ≡ given v

-- and routes that are moved back without a refusal are moved out the same: one that has an old form has no bit behind its width
abbrev pub RoutesComeBack : Type 0
RoutesComeBack = (v moved : List ℕ) → Bytes v → backward v ≡ given moved → outward moved ≡ given v

-- "Given room, pairs of a value within the writing limit, moved out without a refusal, come back the same": the walk finds option 121 in
-- the room that the move left; its value, moved back into another room that has room for it, leaves option 33 there as a typed write does
pub record ThereAndBack (v room other : List ℕ) (place to there : ℕ) : Type 0 where
  pub moved : List ℕ
  pub parts : ℕ
  pub found : step (room_after (move_out v room place) room place) place most_value ≡ given (option routes_code moved parts to)
  pub answered : answer_to (move_back moved other there) other there ≡ given (there + length (encode_kind 3 pairs_code v))
  pub left : room_after (move_back moved other there) other there ≡ over other there (encode_kind 3 pairs_code v)

abbrev pub OutAndBack : Type 0
OutAndBack =
    (v room other : List ℕ) (place to there : ℕ)
    → Bytes v
    → length v ≤ most_value
    → answer_to (move_out v room place) room place ≡ given to
    → place < to
    → Apart routes_code (drop to room)
    → length other ≤ most_bytes
    → there + length (encode_kind 3 pairs_code v) ≤ length other
    → ThereAndBack v room other place to there

-- where a move is given, nothing is written exactly where there is no row
abbrev pub MovesNothing : Type 0
MovesNothing =
    (v room : List ℕ) (place to : ℕ)
    → (answer_to (move_out v room place) room place ≡ given to → (to ≡ place → v ≡ []) × (v ≡ [] → to ≡ place))
    × (answer_to (move_back v room place) room place ≡ given to → (to ≡ place → v ≡ []) × (v ≡ [] → to ≡ place))

-- "10 for a pair list that isn't a multiple of 8, before any row; then the first bad row decides, .. last 7 and 8 for the value made": where
-- 2 and 4 are not given
abbrev pub RowsComeFirst : Type 0
RowsComeFirst =
    (v room : List ℕ) (place k : ℕ)
    → length v ≤ most_bytes
    → length room ≤ most_bytes
    → place ≤ length room
    → ((length v % size_of 3 ≡ 0 → ⊥) → answer_to (move_out v room place) room place ≡ refused 10)
    × (length v % size_of 3 ≡ 0 → outward v ≡ refused k → answer_to (move_out v room place) room place ≡ refused k)
    × (backward v ≡ refused k → answer_to (move_back v room place) room place ≡ refused k)

-- "by 12, 10 for a cut route, and in a move 18 .., 19": in one row the checks stand in this order, and behind those of what is lent
abbrev pub OrderInRow : Type 0
OrderInRow =
    (v room pair rest : List ℕ) (place width : ℕ) (route : Route)
    → InOrder (lent_checks v room place ++ pairs_checks v ++ (pair_out pair).checks)
    × InOrder (lent_checks v room place ++ (row_back (record { checks = row_checks width rest; route = route })).checks)
