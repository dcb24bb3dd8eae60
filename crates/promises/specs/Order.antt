-- Document 01's order of checks: "Checks run in this order .., each only where it applies. .. In a typed reading of a whole option the
-- walk's refusals come first." The checks of each definition, whatever its arguments, have their numbers in that order. 5 of the walk and 4
-- for an index stand in no list of checks: that they come behind is said of them by themselves.
-- Assumes nothing.
use Rattle.std.specs.Prelude.{ℕ, ◌≡◌, Bool, true, false, cond, List, [], ◌∷◌, map, eqb}
use Rattle.rfc.specs.Numbers.{Answer, refused, needs, too_long, past_end, Check, check, order}
use Rattle.rfc.specs.Header.{message_checks, chaddr_checks}
use Rattle.rfc.specs.Walk.{Found, step_checks, step}
use Rattle.rfc.specs.Values.{Value, Mode, read_checks, element, read_option}
use Rattle.rfc.specs.Writing.{write_checks, write_slice, write_bytes, close}
use Rattle.rfc.specs.Typed.{write_value}
use Rattle.rfc.specs.Routes.{Route, write_routes}

abbrev pub number_of : Check → ℕ
number_of (check test number) = number

-- whether the numbers of a list stand in another one, in its order
unfoldable pub follows : List ℕ → List ℕ → Bool
follows [] all = true
follows (n ∷ ns) [] = false
follows (n ∷ ns) (k ∷ all) = cond (eqb n k) (follows ns all) (follows (n ∷ ns) all)

abbrev pub InOrder : List Check → Type 0
InOrder checks = follows (map number_of checks) order ≡ true

abbrev pub OrderOfChecks : Type 0
OrderOfChecks =
    (message area room value bytes : List ℕ) (place code : ℕ) (mode : Mode) (typed : Value) (routes : List Route)
    → InOrder (message_checks message)
    × InOrder (chaddr_checks message)
    × InOrder (step_checks area place)
    × InOrder (read_checks mode code value)
    × InOrder (write_checks (write_slice bytes room place) room place)
    × InOrder (write_checks (write_bytes code value room place) room place)
    × InOrder (write_checks (write_value code typed room place) room place)
    × InOrder (write_checks (write_routes routes room place) room place)
    × InOrder (write_checks (close room place) room place)

-- 5 is given only where neither 2 nor 4 for the place is
abbrev pub JoinComesLast : Type 0
JoinComesLast =
    (area : List ℕ) (place room n : ℕ)
    → step area place room ≡ needs n
    → (too_long area ≡ false) × (past_end place area ≡ false)

-- a value that is refused is refused whatever the index
abbrev pub IndexComesLast : Type 0
IndexComesLast = (reading : Answer Value) (index k : ℕ) → reading ≡ refused k → element index reading ≡ refused k

-- what the walk refuses is refused so, whatever the reading would say
abbrev pub WalkComesFirst : Type 0
WalkComesFirst =
    (mode : Mode) (answer : Answer Found) (k : ℕ)
    → (answer ≡ refused k → read_option mode answer ≡ refused k)
    × (answer ≡ needs k → read_option mode answer ≡ needs k)
