-- Lists of options, written one behind the other and walked call after call (demand 3).
-- Assumes nothing.
use Rattle.std.specs.Prelude.{ℕ, suc, zero, ◌≤◌, ◌<◌, ◌≡◌, List, [], ◌∷◌, ◌++◌, length}
use Rattle.rfc.specs.Numbers.{Answer, given, refused, needs, and_then, most_value, most_part, end_code}
use Rattle.rfc.specs.Walk.{Stop, Found, stop, option, step}
use Rattle.rfc.specs.Writing.{encode, Write, answer_to, room_after, write_bytes, close}

-- an option of a list
pub record Opt : Type 0 where
  pub code : ℕ
  pub value : List ℕ

-- a code from 1 to 254, and a value of 1 to 4,080 bytes
pub record Good (o : Opt) : Type 0 where
  pub low : 1 ≤ o.code
  pub high : o.code ≤ 254
  pub some : 1 ≤ length o.value
  pub most : length o.value ≤ most_value

-- the first option of a list, if there is one, has another code
abbrev pub Differs : ℕ → List Opt → Type 0
Differs code [] = Unit {0}
Differs code (o ∷ os) = o.code ≡ code → ⊥

-- every option is good, and no two neighbours have one code
abbrev pub Valid : List Opt → Type 0
Valid [] = Unit {0}
Valid (o ∷ os) = Good o × Differs o.code os × Valid os

-- every number of a list is a byte
abbrev pub Bytes : List ℕ → Type 0
Bytes [] = Unit {0}
Bytes (b ∷ l) = (b < 256) × Bytes l

-- the list's bytes, as byte values, closed with End
unfoldable pub encode_all : List Opt → List ℕ
encode_all [] = end_code ∷ []
encode_all (o ∷ os) = encode most_part o.code o.value ++ encode_all os

-- where a run of writes has come to: what the room holds, and the place behind the last write
pub record Made : Type 0 where
  pub room : List ℕ
  pub place : ℕ

abbrev pub finished : List ℕ → ℕ → Answer Made
finished room place = given (record { room = room; place = place })

-- a write, and what follows it in the room that it leaves, from the place that it answers
unfoldable pub does : Write → List ℕ → ℕ → (List ℕ → ℕ → Answer Made) → Answer Made
does w room place more = and_then (answer_to w room place) (more (room_after w room place))

-- the options written one behind the other, each as a byte value, and closed; the first refusal ends it
unfoldable pub write_all : List Opt → List ℕ → ℕ → Answer Made
write_all [] room place = does (close room place) room place finished
write_all (o ∷ os) room place = does (write_bytes o.code o.value room place) room place (write_all os)

-- what call after call gives: the options, and the first answer that is no option
pub record Listing : Type 0 where
  pub options : List Opt
  pub ending : Answer Found

-- an option goes in front of what the calls behind it give; any other answer ends the listing
unfoldable pub onward : Answer Found → (ℕ → Listing) → Listing
onward (given (stop s at)) more = record { options = []; ending = given (stop s at) }
onward (given (option code v n at)) more =
    record { options = record { code = code; value = v } ∷ (more at).options; ending = (more at).ending }
onward (refused k) more = record { options = []; ending = refused k }
onward (needs n) more = record { options = []; ending = needs n }

-- from a place, with so much room to join in: no more than so many options, and the answer of the call behind them
unfoldable pub list_in : ℕ → List ℕ → ℕ → ℕ → Listing
list_in zero area room place = record { options = []; ending = step area place room }
list_in (suc k) area room place = onward (step area place room) (list_in k area room)

-- from the area's front. An option takes two bytes or more, so no area has more options than bytes, and the listing ends with an
-- answer that is no option (`Ending`, proved of every listing)
unfoldable pub listing : List ℕ → ℕ → Listing
listing area room = list_in (length area) area room 0

-- an answer that is no option
pub data Ending : Answer Found → Type 0 where
  at_stop : (s : Stop) (at : ℕ) → Ending (given (stop s at))
  at_number : (k : ℕ) → Ending (refused k)
  at_needs : (n : ℕ) → Ending (needs n)
