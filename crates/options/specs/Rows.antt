-- Options written in one call, all of them or none, each from a row of three numbers: its code, and where its value stands in the lent
-- values and how long it is.
-- Assumes nothing.
use Rattle.std.specs.Prelude.{ℕ, suc, ◌+◌, ◌*◌, ◌≤◌, ◌<◌, ◌≡◌, Bool, ◌||◌, List, [], ◌∷◌, ltb, length, take, drop, slice_index, Result, Ok, Err}
use Rattle.rfc.specs.Numbers.{Answer, given, refused, needs, check, checked, most_bytes, most_part, too_long, past_end, no_code, too_much}
use Rattle.rfc.specs.Writing.{Write, encode, answer_to, room_after}
use Rattle.refusal.specs.declared.Refusal.{Refusal}
use Rattle.refusal.specs.declared.Refusal.TheVariants.{NoRoom}
use Rattle.refusal.specs.Told.{says}
use Rattle.options.specs.declared.rows.Row.{Row}
use Rattle.options.specs.declared.rows.RowsWritten.{RowsWritten}
use Rattle.options.specs.declared.rows.RowRefused.{RowRefused}

-- 4: the value does not stand in the lent values
unfoldable pub outside : ℕ → ℕ → List ℕ → Bool
outside start len values = ltb (length values) (start + len)

-- 6: no byte, or a byte that has no value
unfoldable pub not_code : ℕ → Bool
not_code code = ltb 255 code || no_code code

-- the write of one row, as a byte value; the room and the place are checked before
unfoldable pub write_row : ℕ → ℕ → ℕ → List ℕ → Write
write_row code start len values =
    record {
      checks =
          check (outside start len values) 4
          ∷ check (not_code code) 6
          ∷ check (too_much (take len (drop start values))) 7
          ∷ [];
      bytes = encode most_part code (take len (drop start values));
    }

-- what rows come to, each written behind the one before: all of them are written, so many, with what the room then holds and the place
-- behind them; or one is refused, by its index and its number
pub data Outcome : Type 0 where
  all : ℕ → List ℕ → ℕ → Outcome
  stuck : ℕ → ℕ → Outcome

-- at an index, with what the row there answers: the rest goes on behind it, or it decides. (A write has nothing to join, so that 5 does
-- not come)
unfoldable pub or_stuck : ℕ → Answer ℕ → (ℕ → Outcome) → Outcome
or_stuck index (given next) more = more next
or_stuck index (refused number) more = stuck index number
or_stuck index (needs n) more = stuck index 5

-- the rows one behind the other, the first of them at an index; numbers behind the last whole row are not looked at
unfoldable pub rows_from : ℕ → List ℕ → List ℕ → List ℕ → ℕ → Outcome
rows_from index [] values room place = all index room place
rows_from index (a ∷ []) values room place = all index room place
rows_from index (a ∷ b ∷ []) values room place = all index room place
rows_from index (code ∷ start ∷ len ∷ rows) values room place =
    or_stuck index (answer_to (write_row code start len values) room place)
    (rows_from (suc index) rows values (room_after (write_row code start len values) room place))

-- one call: 2 and 4, of the room and the place, come before every row
unfoldable pub write_rows : List ℕ → List ℕ → List ℕ → ℕ → Outcome
write_rows rows values room place =
    or_stuck 0 (checked (check (too_long room) 2 ∷ check (past_end place room) 4 ∷ []) (given place)) (rows_from 0 rows values room)

-- what is answered: how many rows and the place behind them, or the index of a row and what refuses it
abbrev pub answer_of : Outcome → Result (ℕ × ℕ) (ℕ × Answer ℕ)
answer_of (all count room place) = Ok (count, place)
answer_of (stuck row number) = Err (row, refused number)

-- and what an answer of the code tells
abbrev pub rows_told : Result RowsWritten RowRefused → Result (ℕ × ℕ) (ℕ × Answer ℕ)
rows_told (Ok w) = Ok (w.rows, w.place)
rows_told (Err r) = Err (r.row, says r.refusal)

-- what the room then holds: where a row is refused, nothing changes
abbrev pub room_of : Outcome → List ℕ → List ℕ
room_of (all count room' place) room = room'
room_of (stuck row number) room = room

-- rows written at a place, from a room to a room', answer r
pub record WroteRows (rows values room room' : List ℕ) (place : ℕ) (r : Result RowsWritten RowRefused) : Type 0 where
  pub tells : rows_told r ≡ answer_of (write_rows rows values room place)
  pub left : room' ≡ room_of (write_rows rows values room place) room

-- Between the functions of the crate: the row of an index
abbrev pub row_at : List ℕ → ℕ → Row
row_at rows index =
    record { code = slice_index rows (3 * index); start = slice_index rows (3 * index + 1); len = slice_index rows (3 * index + 2) }

-- its write
abbrev pub write_of : Row → List ℕ → Write
write_of row values = write_row row.code row.start row.len values

-- a place of a room that is not too long
pub record InRoom (room : List ℕ) (place : ℕ) : Type 0 where
  pub short : length room ≤ most_bytes
  pub within : place ≤ length room

-- 8, or the place behind a write that ends at `to`
abbrev pub Fitting : List ℕ → ℕ → Result ℕ Refusal → Type 0
Fitting room to (Ok end) = (end ≡ to) × (to ≤ length room)
Fitting room to (Err e) = (e ≡ NoRoom) × (length room < to)

-- the write of a row there is not refused
pub record Passes (row : Row) (values room : List ℕ) (place : ℕ) : Type 0 where
  pub in_room : InRoom room place
  pub to : ℕ
  pub passes : answer_to (write_of row values) room place ≡ given to

-- nor is any row
pub record AllPass (rows values room : List ℕ) (place : ℕ) : Type 0 where
  pub in_room : InRoom room place
  pub count : ℕ
  pub room' : List ℕ
  pub to : ℕ
  pub passes : rows_from 0 rows values room place ≡ all count room' to
