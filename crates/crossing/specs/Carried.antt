-- How the answers of the definitions cross the boundary: a struct of plain numbers for each.
-- Assumes nothing.
use Rattle.std.specs.Prelude.{ℕ, ◌≡◌, cond, List, [], eqb, length, get_or, Result, Ok, Err}
use Rattle.facts.specs.BigEndian.{number, unsigned}
use Rattle.rfc.specs.Numbers.{Answer, given, refused, needs}
use Rattle.rfc.specs.Walk as walk
use Rattle.rfc.specs.Values as values
use Rattle.rfc.specs.Writing.{Write, answer_to, room_after}
use Rattle.rfc.specs.Typed.{write_value}
use Rattle.refusal.specs.declared.Refusal.{Refusal}
use Rattle.refusal.specs.Told.{number_of, needed_of}
use Rattle.borrowed.specs.Walked.{stop_of}
use Rattle.borrowed.specs.declared.answer.Found.{Found}
use Rattle.borrowed.specs.declared.answer.Step as call
use Rattle.borrowed.specs.declared.answer.Step.TheVariants as calls
use Rattle.values.specs.Reading.{says, count_of}
use Rattle.values.specs.declared.answer.Value as held
use Rattle.crossing.specs.declared.answers.Field.{Field}
use Rattle.crossing.specs.declared.answers.Step.{Step}
use Rattle.crossing.specs.declared.answers.Value.{Value}
use Rattle.crossing.specs.declared.answers.Element.{Element}
use Rattle.crossing.specs.declared.answers.Written.{Written}

-- one field of the header
abbrev pub field_of : Answer ℕ → Field
field_of (given n) = record { refused = 0; number = n }
field_of (refused k) = record { refused = k; number = 0 }
field_of (needs len) = record { refused = 5; number = 0 }

-- the stops, in document 01's order
abbrev pub stop_number : walk.Stop → ℕ
stop_number walk.out = 1
stop_number walk.end = 2
stop_number walk.cut_length = 3
stop_number walk.cut_value = 4
stop_number walk.cut_continuation = 5

-- one call of the walk from a place
abbrev pub step_of : ℕ → Answer walk.Found → Step
step_of place (given (walk.stop s at)) = record { refused = 0; stop = stop_number s; code = 0; parts = 0; len = 0; place = at }
step_of place (given (walk.option code v n at)) = record { refused = 0; stop = 0; code = code; parts = n; len = length v; place = at }
step_of place (refused k) = record { refused = k; stop = 0; code = 0; parts = 0; len = 0; place = place }
step_of place (needs len) = record { refused = 5; stop = 0; code = 0; parts = 0; len = len; place = place }

-- a call from a place, from a join buffer to a join buffer, answers r, which is this answer
pub record Steps (place : ℕ) (join join' : List ℕ) (r : Step) (answer : Answer walk.Found) : Type 0 where
  pub told : r ≡ step_of place answer
  pub kept : join' ≡ walk.join_after answer join

-- a call of the walk at a place
abbrev pub Stepped : List ℕ → ℕ → List ℕ → List ℕ → Step → Type 0
Stepped area place join join' r = Steps place join join' r (walk.step area place (length join))

-- what a value of a kind holds, as one number; only three bytes are a number among those that are raw
abbrev pub content_number : ℕ → values.Content → ℕ
content_number kind (values.raw v) = cond (eqb kind 14) (number v) 0
content_number kind (values.natural n) = n
content_number kind (values.integer z) = unsigned z
content_number kind (values.truth b) = cond b 1 0
content_number kind (values.numbers l) = 0
content_number kind values.nothing = 0

-- a value with so many elements
abbrev pub holding : ℕ → values.Value → Value
holding count v = record { refused = 0; kind = v.kind; number = content_number v.kind v.content; count = count }

-- what a value reads as
abbrev pub value_of : Answer values.Value → Value
value_of (given v) = holding (length (values.elements v)) v
value_of (refused k) = record { refused = k; kind = 0; number = 0; count = 0 }
value_of (needs len) = record { refused = 5; kind = 0; number = 0; count = 0 }

-- an element of a list
abbrev pub element_of : Answer values.Element → Element
element_of (given e) = record { refused = 0; first = get_or e.entries 0 0; second = get_or e.entries 1 0 }
element_of (refused k) = record { refused = k; first = 0; second = 0 }
element_of (needs len) = record { refused = 5; first = 0; second = 0 }

-- what a write at a place answers
abbrev pub written_of : ℕ → Answer ℕ → Written
written_of place (given next) = record { refused = 0; place = next }
written_of place (refused k) = record { refused = k; place = place }
written_of place (needs len) = record { refused = 5; place = place }

-- the write w at a place, from a room to a room', answers r
pub record Wrote (w : Write) (room room' : List ℕ) (place : ℕ) (r : Written) : Type 0 where
  pub told : r ≡ written_of place (answer_to w room place)
  pub left : room' ≡ room_after w room place

-- a value of this kind that holds this, written to a code at a place, from a room to a room', answers r
abbrev pub WroteValue : ℕ → values.Content → ℕ → List ℕ → List ℕ → ℕ → Written → Type 0
WroteValue kind content code room room' place r =
    Wrote (write_value code (record { kind = kind; content = content }) room place) room room' place r

-- Between the functions of the crate: the same of the answers of the library. An option
abbrev pub option_here : Found → Step
option_here f = record { refused = 0; stop = 0; code = f.code; parts = f.parts; len = f.len; place = f.place }

-- a call of the walk from a place
abbrev pub step_here : ℕ → Result call.Step Refusal → Step
step_here place (Ok (calls.Stopped s at)) = record { refused = 0; stop = stop_number (stop_of s); code = 0; parts = 0; len = 0; place = at }
step_here place (Ok (calls.Found f)) = option_here f
step_here place (Err e) = record { refused = number_of e; stop = 0; code = 0; parts = 0; len = needed_of e; place = place }

-- what a value holds. (No number that crosses is made of bytes that stay where they are)
abbrev pub held_here : held.Value → Value
held_here r = holding (count_of r) (says r [])

-- what a value reads as
abbrev pub reading_here : Result held.Value Refusal → Value
reading_here (Ok r) = held_here r
reading_here (Err e) = record { refused = number_of e; kind = 0; number = 0; count = 0 }
