-- The options of an area listed in one call, a row of numbers for each.
-- Assumes nothing.
use Rattle.std.specs.Prelude.{ℕ, suc, zero, ◌+◌, ◌-◌, ◌*◌, ◌/◌, ◌≤◌, ◌≡◌, List, [], ◌∷◌, ◌++◌, length, take, drop}
use Rattle.std.specs.Prelude.{Option, Some, None, Result, Ok, Err}
use Rattle.facts.specs.Over.{over}
use Rattle.rfc.specs.Numbers.{Answer, given, refused, needs, and_then, checked}
use Rattle.rfc.specs.Walk as walk
use Rattle.rfc.specs.Walk.{Found, stop, option, walk, room_for, step_checks}
use Rattle.rfc.specs.Values.{Mode, read}
use Rattle.rfc.specs.Values as rfc
use Rattle.refusal.specs.declared.Refusal.{Refusal}
use Rattle.refusal.specs.Told.{number_of}
use Rattle.borrowed.specs.Walked.{stop_of}
use Rattle.borrowed.specs.declared.answer.Found as here
use Rattle.borrowed.specs.declared.answer.Stop.{Stop}
use Rattle.crossing.specs.Carried.{stop_number, value_of}
use Rattle.crossing.specs.declared.answers.Value.{Value}
use Rattle.sindovaleph_rows.specs.declared.listing.Listed.{Listed}
use Rattle.sindovaleph_rows.specs.declared.listing.Filled.{Filled}

-- how a listing ends: at a stop, or with no room for a further row
pub data Last : Type 0 where
  at_stop : walk.Stop → Last
  full : Last

-- what is listed: the rows one behind the other, how it ends, and the place where a further call goes on
pub record Listing : Type 0 where
  pub rows : List ℕ
  pub last : Last
  pub place : ℕ

-- the numbers of a row are those of `Step` for an option: its code, its parts, the length of its value, the place behind it
abbrev pub step_row : ℕ → List ℕ → ℕ → ℕ → List ℕ
step_row code v n at = code ∷ n ∷ length v ∷ at ∷ []

-- the numbers of `Value`
abbrev pub value_row : Value → List ℕ
value_row r = r.refused ∷ r.kind ∷ r.number ∷ r.count ∷ []

-- what an option reads as where nothing can be joined: 5 for two parts or more, unless they are empty
unfoldable pub read_unjoined : Mode → ℕ → List ℕ → ℕ → ℕ → Answer rfc.Value
read_unjoined mode code v n at = and_then (room_for 0 (option code v n at)) (λ (f : Found). read mode code v)

-- a row without what the option reads as, or with it: 4 numbers, or 8
pub data Columns : Type 0 where
  found : Columns
  typed : Mode → Columns

abbrev pub width : Columns → ℕ
width found = 4
width (typed mode) = 8

abbrev pub row_of : Columns → ℕ → List ℕ → ℕ → ℕ → List ℕ
row_of found code v n at = step_row code v n at
row_of (typed mode) code v n at = step_row code v n at ++ value_row (value_of (read_unjoined mode code v n at))

-- an option's row in front of what is listed behind it; a stop ends the listing
unfoldable pub in_front : Columns → Found → (ℕ → Listing) → Listing
in_front c (stop s at) more = record { rows = []; last = at_stop s; place = at }
in_front c (option code v n at) more =
    record { rows = row_of c code v n at ++ (more at).rows; last = (more at).last; place = (more at).place }

-- from a place on, no more than so many rows
unfoldable pub list_in : ℕ → Columns → List ℕ → ℕ → Listing
list_in zero c area place = record { rows = []; last = full; place = place }
list_in (suc k) c area place = in_front c (walk place (drop place area)) (list_in k c area)

-- one call, with room for so many numbers: as many whole rows as it has room for
unfoldable pub list : Columns → List ℕ → ℕ → ℕ → Answer Listing
list c area place room = checked (step_checks area place) (given (list_in (room / width c) c area place))

abbrev pub last_number : Last → ℕ
last_number (at_stop s) = stop_number s
last_number full = 0

-- what crosses
abbrev pub listed_of : Columns → ℕ → Answer Listing → Listed
listed_of c place (given l) = record { refused = 0; stop = last_number l.last; rows = length l.rows / width c; place = l.place }
listed_of c place (refused k) = record { refused = k; stop = 0; rows = 0; place = place }
listed_of c place (needs n) = record { refused = 5; stop = 0; rows = 0; place = place }

-- what the lent rows then hold
abbrev pub rows_after : Answer Listing → List ℕ → List ℕ
rows_after (given l) rows = over rows 0 l.rows
rows_after (refused k) rows = rows
rows_after (needs n) rows = rows

-- a listing from a place, from lent rows to rows', answers r
pub record Lists (c : Columns) (area : List ℕ) (place : ℕ) (rows rows' : List ℕ) (r : Listed) : Type 0 where
  pub told : r ≡ listed_of c place (list c area place (length rows))
  pub kept : rows' ≡ rows_after (list c area place (length rows)) rows

-- Between the functions of the crate: the bytes before the place of an option, as many as its value has
unfoldable pub bytes_before : List ℕ → ℕ → ℕ → List ℕ
bytes_before area len place = take len (drop (place - len) area)

abbrev pub bytes_of : List ℕ → here.Found → List ℕ
bytes_of area f = bytes_before area f.len f.place

-- they are there
pub record Inside (area : List ℕ) (len place : ℕ) : Type 0 where
  pub long : len ≤ place
  pub within : place ≤ length area

-- an option's row, by the numbers that a call found
abbrev pub row_found : Columns → List ℕ → here.Found → List ℕ
row_found c area f = row_of c f.code (bytes_of area f) f.parts f.place

-- the four numbers of a row, as a call found them
abbrev pub front_of : here.Found → List ℕ
front_of f = f.code ∷ f.parts ∷ f.len ∷ f.place ∷ []

-- a row of so many numbers, for an option whose bytes are there
pub record Fits (n : ℕ) (row : List ℕ) (area : List ℕ) (f : here.Found) : Type 0 where
  pub wide : length row ≡ n
  pub inside : Inside area f.len f.place

-- the number of a stop, 0 for none
abbrev pub stop_in : Option Stop → ℕ
stop_in None = 0
stop_in (Some s) = stop_number (stop_of s)

-- what crosses of an answer of the code
abbrev pub listed_here : ℕ → Result Filled Refusal → Listed
listed_here place (Ok f) = record { refused = 0; stop = stop_in f.stop; rows = f.rows; place = f.place }
listed_here place (Err e) = record { refused = number_of e; stop = 0; rows = 0; place = place }

-- a listing put behind the first i rows
unfoldable pub fills_from : Columns → List ℕ → ℕ → Listing → List ℕ × Listed
fills_from c rows i l = (
  over rows (width c * i) l.rows,
  record { refused = 0; stop = last_number l.last; rows = i + length l.rows / width c; place = l.place },
)
