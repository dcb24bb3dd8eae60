-- The worked examples P1 to P12 of document 01, as one list of cases.
-- Assumes nothing.
use Rattle.std.specs.Prelude.{ℕ, ◌≡◌, false, List, [], ◌∷◌, ◌++◌, map, pos, negsuc, length, replicate}
use Rattle.rfc.specs.Numbers.{Answer, given, refused, most_value}
use Rattle.rfc.specs.Walk.{Found, stop, option, out, end, cut_length, cut_value, cut_continuation, step}
use Rattle.rfc.specs.Values.{Content, integer, truth, Value, Mode, plain, strict, read}
use Rattle.rfc.specs.Writing.{answer_to, room_after}
use Rattle.rfc.specs.Routes.{Route, write_routes}

-- a call of the walk from a place, and what it finds
pub record Call : Type 0 where
  pub place : ℕ
  pub finds : Found

abbrev pub from : ℕ → Found → Call
from place finds = record { place = place; finds = finds }

-- a case of an example: calls of the walk on an area; a value of a code, read; routes, written
pub data Case : Type 0 where
  walks : List ℕ → List Call → Case
  reads : Mode → ℕ → List ℕ → Answer Value → Case
  writes : List Route → List ℕ → Case

-- what comes of a case: the calls' answers; the reading; the write's answer and what the room then holds
pub data Outcome : Type 0 where
  answers : List (Answer Found) → Outcome
  reading : Answer Value → Outcome
  room : Answer ℕ → List ℕ → Outcome

-- what the definitions make of it: the walk has 4,080 bytes to join in; the routes are written into a room of zeros, as long as the
-- bytes are
unfoldable pub does : Case → Outcome
does (walks area calls) = answers (map (λ (c : Call). step area c.place most_value) calls)
does (reads mode code v answer) = reading (read mode code v)
does (writes routes bytes) =
    let zeros : List ℕ = replicate (length bytes) 0 in
    let w = write_routes routes zeros 0 in
    room (answer_to w zeros 0) (room_after w zeros 0)

-- what the document says of it
unfoldable pub says : Case → Outcome
says (walks area calls) = answers (map (λ (c : Call). given c.finds) calls)
says (reads mode code v answer) = reading answer
says (writes routes bytes) = room (given (length bytes)) bytes

-- an option of one part, End, and out
abbrev pub P1 : Case
P1 =
    walks (12 ∷ 3 ∷ 97 ∷ 98 ∷ 99 ∷ 255 ∷ [])
    (from 0 (option 12 (97 ∷ 98 ∷ 99 ∷ []) 1 5) ∷ from 5 (stop end 6) ∷ from 6 (stop out 6) ∷ [])

-- an option of two parts
abbrev pub P2 : Case
P2 = walks (12 ∷ 1 ∷ 65 ∷ 12 ∷ 1 ∷ 66 ∷ 255 ∷ []) (from 0 (option 12 (65 ∷ 66 ∷ []) 2 6) ∷ [])

-- a Pad between two parts
abbrev pub P3 : Case
P3 =
    walks (12 ∷ 1 ∷ 65 ∷ 0 ∷ 12 ∷ 1 ∷ 66 ∷ [])
    (from 0 (option 12 (65 ∷ []) 1 3) ∷ from 3 (option 12 (66 ∷ []) 1 7) ∷ from 7 (stop out 7) ∷ [])

-- a third part that is cut
abbrev pub P4 : Case
P4 =
    walks (12 ∷ 1 ∷ 65 ∷ 12 ∷ 1 ∷ 66 ∷ 12 ∷ 5 ∷ [])
    (from 0 (stop cut_continuation 3) ∷ from 3 (stop cut_continuation 6) ∷ from 6 (stop cut_value 8) ∷ from 8 (stop out 8) ∷ [])

-- a cut value, read on as codes
abbrev pub P5 : Case
P5 = walks (12 ∷ 5 ∷ 65 ∷ 66 ∷ []) (from 0 (stop cut_value 2) ∷ from 2 (stop cut_value 4) ∷ from 4 (stop out 4) ∷ [])

-- a code and no length byte; nothing; Pads
abbrev pub P6 : Case
P6 = walks (12 ∷ []) (from 0 (stop cut_length 1) ∷ [])

abbrev pub P7 : Case
P7 = walks [] (from 0 (stop out 0) ∷ [])

abbrev pub P8 : Case
P8 = walks (0 ∷ 0 ∷ []) (from 0 (stop out 2) ∷ [])

-- an option behind an End
abbrev pub P9 : Case
P9 =
    walks (255 ∷ 1 ∷ 4 ∷ 255 ∷ 255 ∷ 255 ∷ 0 ∷ [])
    (from 0 (stop end 1) ∷ from 1 (option 1 (255 ∷ 255 ∷ 255 ∷ 0 ∷ []) 1 7) ∷ [])

-- code 2: -1 and both ends; `negsuc k` is -(k + 1)
abbrev pub seconds : Content → Answer Value
seconds c = given (record { kind = 9; content = c })

abbrev pub P10 : List Case
P10 =
    reads plain 2 (255 ∷ 255 ∷ 255 ∷ 255 ∷ []) (seconds (integer (negsuc 0)))
    ∷ reads plain 2 (128 ∷ 0 ∷ 0 ∷ 0 ∷ []) (seconds (integer (negsuc 2147483647)))
    ∷ reads plain 2 (127 ∷ 255 ∷ 255 ∷ 255 ∷ []) (seconds (integer (pos 2147483647)))
    ∷ []

-- 10.0.0.0/8 and 0.0.0.0/0 via 192.0.2.1
abbrev pub via : ℕ → ℕ → Route
via width destination = record { width = width; destination = destination; gateway = 0xc0000201 }

abbrev pub P11 : List Case
P11 =
    writes (via 8 0x0a000000 ∷ []) (121 ∷ 6 ∷ 8 ∷ 10 ∷ 192 ∷ 0 ∷ 2 ∷ 1 ∷ [])
    ∷ writes (via 0 0 ∷ []) (121 ∷ 5 ∷ 0 ∷ 192 ∷ 0 ∷ 2 ∷ 1 ∷ [])
    ∷ []

-- a yes/no byte of 2, in code 19
abbrev pub P12 : List Case
P12 = reads plain 19 (2 ∷ []) (given (record { kind = 5; content = truth false })) ∷ reads strict 19 (2 ∷ []) (refused 14) ∷ []

abbrev pub examples : List Case
examples = (P1 ∷ P2 ∷ P3 ∷ P4 ∷ P5 ∷ P6 ∷ P7 ∷ P8 ∷ P9 ∷ []) ++ P10 ++ P11 ++ P12

-- all of them together
abbrev pub WorkedExamples : Type 0
WorkedExamples = map does examples ≡ map says examples
