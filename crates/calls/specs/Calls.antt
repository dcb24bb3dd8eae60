-- Demand 3 over the calls. `promises` states it of the definitions; here each call is whatever its contract allows, in the record that
-- the contract cites: its answer, and what it leaves in lent memory. First one option a call, in Rattle: `write_bytes` and `close` of
-- `options`, `step` of `borrowed`. Then all options in one call, over the boundary: `sindovaleph_write_list`, `sindovaleph_close`,
-- `sindovaleph_list`.
-- Assumes nothing.
use Rattle.std.specs.Prelude.{ℕ, ◌+◌, ◌/◌, ◌≤◌, ◌<◌, ◌≡◌, List, [], ◌∷◌, ◌++◌, length, take, drop, Result, Ok, Err}
use Rattle.facts.specs.Over.{over}
use Rattle.rfc.specs.Numbers.{given, most_bytes, most_value}
use Rattle.rfc.specs.Walk as walk
use Rattle.rfc.specs.Writing.{write_bytes, close}
use Rattle.rfc.specs.Lists.{Opt, Valid, encode_all, listing}
use Rattle.refusal.specs.declared.Refusal.{Refusal}
use Rattle.encoder.specs.Written.{Wrote}
use Rattle.borrowed.specs.Walked.{Stepped, shown}
use Rattle.borrowed.specs.declared.answer.Found as option
use Rattle.borrowed.specs.declared.answer.Step.TheVariants.{Stopped, Found}
use Rattle.borrowed.specs.declared.answer.Stop.{Stop}
use Rattle.borrowed.specs.declared.answer.Stop.TheVariants.{End}
use Rattle.crossing.specs.Carried as boundary
use Rattle.crossing.specs.declared.answers.Written as boundary-written
use Rattle.sindovaleph_rows.specs.Writing.{WritesList}
use Rattle.sindovaleph_rows.specs.declared.writing.WrittenRows.{WrittenRows}
use Rattle.sindovaleph_rows.specs.Listing.{Lists, found}
use Rattle.sindovaleph_rows.specs.declared.listing.Listed.{Listed}

-- One option a call.
-- Calls of `write_bytes`, one an option, each at the place that the one before answered and in the room that it left; then a call of
-- `close`. The first refusal ends it. From a room and a place they come to a room' and to the last answer
pub data WritesAll : List Opt → List ℕ → ℕ → List ℕ → Result ℕ Refusal → Type 0 where
  closes : {room room' : List ℕ} {place : ℕ} {r : Result ℕ Refusal}
      → Wrote (close room place) room room' place r → WritesAll [] room place room' r
  goes_on : {o : Opt} {os : List Opt} {room room₁ room' : List ℕ} {place to : ℕ} {r : Result ℕ Refusal}
      → Wrote (write_bytes o.code o.value room place) room room₁ place (Ok to)
      → WritesAll os room₁ to room' r
      → WritesAll (o ∷ os) room place room' r
  ends : {o : Opt} {os : List Opt} {room room' : List ℕ} {place : ℕ} {e : Refusal}
      → Wrote (write_bytes o.code o.value room place) room room' place (Err e)
      → WritesAll (o ∷ os) room place room' (Err e)

-- an option that a call found, with the value that is shown then
abbrev pub found_by : option.Found → List ℕ → List ℕ → Opt
found_by f area join = record { code = f.code; value = shown f.parts f.len f.place area join }

-- Calls of `step`, each at the place that the one before answered and with the join buffer that it left, as long as they find options:
-- these options, and the place and the join buffer that the calls have come to
pub data StepsTo (area : List ℕ) : ℕ → List ℕ → List Opt → ℕ → List ℕ → Type 0 where
  none : {place : ℕ} {join : List ℕ} → StepsTo area place join [] place join
  one : {place at : ℕ} {f : option.Found} {join join₁ join' : List ℕ} {os : List Opt}
      → Stepped area place join join₁ (Ok (Found f))
      → StepsTo area f.place join₁ os at join'
      → StepsTo area place join (found_by f area join₁ ∷ os) at join'

-- The calls list exactly these options and stop at the End that ends at a place. Whatever they found so far, and whatever the next one
-- answers: an option is the list's next one; a stop is at that End, and all options were found before; nothing is refused
pub record ListsBack (options : List Opt) (end : ℕ) (area join : List ℕ) : Type 0 where
  pub finds : {sofar : List Opt} {at : ℕ} {f : option.Found} {join₁ join₂ : List ℕ}
      → StepsTo area 0 join sofar at join₁
      → Stepped area at join₁ join₂ (Ok (Found f))
      → (rest : List Opt) × (options ≡ sofar ++ found_by f area join₂ ∷ rest)
  pub stops : {sofar : List Opt} {at to : ℕ} {s : Stop} {join₁ join₂ : List ℕ}
      → StepsTo area 0 join sofar at join₁
      → Stepped area at join₁ join₂ (Ok (Stopped s to))
      → (sofar ≡ options) × (s ≡ End) × (to ≡ end)
  pub refuses : {sofar : List Opt} {at : ℕ} {e : Refusal} {join₁ join₂ : List ℕ}
      → StepsTo area 0 join sofar at join₁
      → Stepped area at join₁ join₂ (Err e)
      → ⊥

-- "Take any list of options ..": whatever the writing calls answered and left, and then the walking ones
pub record BackByCalls (options : List Opt) (room room' behind join : List ℕ) (place : ℕ) (r : Result ℕ Refusal) : Type 0 where
  -- the last call answers the place behind the list's bytes; they stand at the place, and nothing else changed
  pub told : r ≡ Ok (place + length (encode_all options))
  pub left : room' ≡ over room place (encode_all options)
  -- those bytes are listed, whatever stands behind them
  pub walked : ListsBack options (length (encode_all options)) (encode_all options ++ behind) join
  -- and so is the room itself, from the place on
  pub in_the_room : ListsBack options (length (encode_all options)) (drop place room') join

abbrev pub CallsRoundTrip : Type 0
CallsRoundTrip =
    (options : List Opt) (room room' behind join : List ℕ) (place : ℕ) (r : Result ℕ Refusal)
    → Valid options
    → length room ≤ most_bytes
    → place + length (encode_all options) ≤ length room
    → length (encode_all options ++ behind) ≤ most_bytes
    → most_value ≤ length join
    → WritesAll options room place room' r
    → BackByCalls options room room' behind join place r

-- All options in one call.
-- the options that rows of three numbers name: a code, and where the value stands in the lent values and how long it is
abbrev pub named : List ℕ → List ℕ → List Opt
named [] values = []
named (a ∷ []) values = []
named (a ∷ b ∷ []) values = []
named (code ∷ start ∷ len ∷ rows) values = record { code = code; value = take len (drop start values) } ∷ named rows values

-- each of these values stands there
abbrev pub Stand : List ℕ → List ℕ → Type 0
Stand [] values = Unit {0}
Stand (a ∷ []) values = Unit {0}
Stand (a ∷ b ∷ []) values = Unit {0}
Stand (code ∷ start ∷ len ∷ rows) values = (start + len ≤ length values) × Stand rows values

-- a row of four numbers tells an option of an area: its code and its value's length; and where it has one part, the value is the bytes
-- that are shown for these numbers, whatever the join buffer
pub record Tells (area : List ℕ) (o : Opt) (code parts len place : ℕ) : Type 0 where
  pub same_code : code ≡ o.code
  pub same_length : len ≡ length o.value
  pub value : (join : List ℕ) → parts ≤ 1 → shown parts len place area join ≡ o.value

-- a table begins with a row for each option, in their order
abbrev pub TellAll : List ℕ → List ℕ → List Opt → Type 0
TellAll area table [] = Unit {0}
TellAll area [] (o ∷ os) = ⊥
TellAll area (a ∷ []) (o ∷ os) = ⊥
TellAll area (a ∷ b ∷ []) (o ∷ os) = ⊥
TellAll area (a ∷ b ∷ c ∷ []) (o ∷ os) = ⊥
TellAll area (code ∷ parts ∷ len ∷ place ∷ table) (o ∷ os) = Tells area o code parts len place × TellAll area table os

-- what a call of `sindovaleph_list` over a whole area has told and filled: a row for each option of `listing`, in their order, and the stop
-- at which that listing ends. (65,535 bytes to join in are room for whatever an area has)
pub record RowsOf (area table' : List ℕ) (r : Listed) : Type 0 where
  pub refused : r.refused ≡ 0
  pub count : r.rows ≡ length (listing area most_bytes).options
  pub rows : TellAll area table' (listing area most_bytes).options
  pub last : (s : walk.Stop) × (r.stop ≡ boundary.stop_number s) × ((listing area most_bytes).ending ≡ given (walk.stop s r.place))

-- so it does, where the table has a row more than there are options
abbrev pub RowsAreListed : Type 0
RowsAreListed =
    (area table table' : List ℕ) (r : Listed)
    → length area ≤ most_bytes
    → length (listing area most_bytes).options < length table / 4
    → Lists found area 0 table table' r
    → RowsOf area table' r

-- and good rows, written by `sindovaleph_write_list` and closed by `sindovaleph_close`, are the list's bytes, and `sindovaleph_list` lists
-- them back, whatever stands behind them
pub record BackByRows (options : List Opt) (room room' behind table' : List ℕ) (place : ℕ) (w : WrittenRows) (c : boundary-written.Written)
    (r : Listed) : Type 0 where
  -- no row is refused, and each is written
  pub all_written : (w.refused ≡ 0) × (w.rows ≡ length options)
  -- the list's bytes stand at the place, and nothing else changed
  pub closed : c ≡ record { refused = 0; place = place + length (encode_all options) }
  pub left : room' ≡ over room place (encode_all options)
  -- those bytes are listed up to their End, a row for each option
  pub listed : r
      ≡ record {
        refused = 0;
        stop = boundary.stop_number walk.end;
        rows = length options;
        place = length (encode_all options);
      }
  pub told : TellAll (encode_all options ++ behind) table' options

abbrev pub RowsRoundTrip : Type 0
RowsRoundTrip =
    (rows values room room₁ room' behind table table' : List ℕ) (place : ℕ) (w : WrittenRows) (c : boundary-written.Written) (r : Listed)
    → Stand rows values
    → Valid (named rows values)
    → length room ≤ most_bytes
    → place + length (encode_all (named rows values)) ≤ length room
    → length (encode_all (named rows values) ++ behind) ≤ most_bytes
    → length (named rows values) < length table / 4
    → WritesList rows values room room₁ place w
    → boundary.Wrote (close room₁ w.place) room₁ room' w.place c
    → Lists found (encode_all (named rows values) ++ behind) 0 table table' r
    → BackByRows (named rows values) room room' behind table' place w c r
