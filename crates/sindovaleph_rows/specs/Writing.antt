-- How the answer to a write of rows crosses the boundary.
-- Assumes nothing.
use Rattle.std.specs.Prelude.{ℕ, ◌≡◌, List}
use Rattle.options.specs.Rows.{Outcome, all, stuck, write_rows, room_of}
use Rattle.sindovaleph_rows.specs.declared.writing.WrittenRows.{WrittenRows}

-- what crosses: a refusal leaves the place
abbrev pub written_rows : ℕ → Outcome → WrittenRows
written_rows place (all count room to) = record { refused = 0; rows = count; place = to }
written_rows place (stuck row number) = record { refused = number; rows = row; place = place }

-- rows written at a place, from a room to a room', answer r
pub record WritesList (rows values room room' : List ℕ) (place : ℕ) (r : WrittenRows) : Type 0 where
  pub told : r ≡ written_rows place (write_rows rows values room place)
  pub left : room' ≡ room_of (write_rows rows values room place) room
