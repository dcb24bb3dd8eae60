-- A text that is added to at a place of a room: what does not fit is counted and not written, and counting ends above the most bytes
-- of a room.
-- Assumes nothing.
use Rattle.std.specs.Prelude.{ℕ, ◌+◌, cond, leb, ltb, length, set}
use mathlib.Core.List.{List, foldl}
use Rattle.rfc.specs.Numbers.{most_bytes}

-- what the room holds, and the place of the next character
abbrev pub State : Type 0
State = List ℕ × ℕ

-- the place behind a place
unfoldable pub behind : ℕ → ℕ
behind at = cond (leb at most_bytes) (at + 1) at

-- one character more
unfoldable pub adds : State → ℕ → State
adds s character = (cond (ltb s.1 (length s.0)) (set s.0 s.1 character) s.0, behind s.1)

-- a text more
unfoldable pub adds_all : State → List ℕ → State
adds_all s text = foldl adds s text
