-- Demand 1, of what is lent: "A refusal leaves all lent memory and the walk's place untouched", and document 01's "A write succeeds by
-- changing exactly the bytes from the old place to the new one".
-- (That every entry point ends with an answer or a refusal is in its contract: none has a `requires`, and each says the whole answer.)
-- Assumes nothing.
use Rattle.std.specs.Prelude.{ℕ, ◌-◌, ◌≡◌, List, length, take, drop}
use Rattle.rfc.specs.Numbers.{Answer, given, refused, needs}
use Rattle.rfc.specs.Walk.{Found, Stop, stop, step, join_after, place_after}
use Rattle.rfc.specs.Writing.{Write, answer_to, room_after}

-- a call that is refused, by a number or by 5 with a length
pub data Refusal : Answer Found → Type 0 where
  by_number : (k : ℕ) → Refusal (refused k)
  by_length : (n : ℕ) → Refusal (needs n)

-- a refused call of the walk leaves the join buffer and the place as they are
abbrev pub WalkRefusals : Type 0
WalkRefusals =
    (area join : List ℕ) (place : ℕ)
    → Refusal (step area place (length join))
    → (join_after (step area place (length join)) join ≡ join) × (place_after (step area place (length join)) place ≡ place)

-- a stop leaves the join buffer as it is
abbrev pub WalkStops : Type 0
WalkStops =
    (area join : List ℕ) (place at : ℕ) (s : Stop)
    → step area place (length join) ≡ given (stop s at)
    → join_after (step area place (length join)) join ≡ join

-- a refused write, of any kind, leaves the room as it is
abbrev pub WriteRefusals : Type 0
WriteRefusals =
    (w : Write) (room : List ℕ) (place k : ℕ)
    → answer_to w room place ≡ refused k
    → room_after w room place ≡ room

-- a write that succeeds, of any kind, keeps the room's length, its bytes before the old place and those from the new place on; between the
-- two places stand the bytes that it writes
pub record Changed (w : Write) (room room' : List ℕ) (place to : ℕ) : Type 0 where
  pub length_kept : length room' ≡ length room
  pub before_kept : take place room' ≡ take place room
  pub behind_kept : drop to room' ≡ drop to room
  pub between : take (to - place) (drop place room') ≡ w.bytes

abbrev pub WriteChanges : Type 0
WriteChanges =
    (w : Write) (room : List ℕ) (place to : ℕ)
    → answer_to w room place ≡ given to
    → Changed w room (room_after w room place) place to
