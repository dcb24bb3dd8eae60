-- The listing of a message: its text as ASCII, line by line (document 01, "Worked examples").
-- Assumes nothing.
use Rattle.std.specs.Prelude.{ℕ, suc, zero, Bool, cond, List, [], ◌++◌, ltb, length}
use Rattle.facts.specs.BigEndian.{number}
use Rattle.rfc.specs.Numbers.{Answer, given, refused, needs, too_short}
use Rattle.rfc.specs.Header as header
use Rattle.rfc.specs.Header.{bytes_of}
use Rattle.rfc.specs.Walk as walk
use Rattle.rfc.specs.Kinds.{kind_of}
use Rattle.pen.specs.Texts.{space, named, spaced}
use Rattle.lines.specs.Words as words
use Rattle.lines.specs.Words.{newline}

-- the most bytes of a message that is listed, and the room in which its options are joined
abbrev pub most_listed : ℕ
most_listed = 4096

-- line 1: the length and four numbers of the header
unfoldable pub message_line : List ℕ → List ℕ
message_line message =
    named words.message (length message)
    ++ named words.op (number (bytes_of header.op message))
    ++ named words.htype (number (bytes_of header.htype message))
    ++ named words.hlen (number (bytes_of header.hlen message))
    ++ named words.xid (number (bytes_of header.xid message))
    ++ newline

-- a refusal by its number
unfoldable pub refused_line : ℕ → List ℕ
refused_line number = named words.refused number ++ newline

-- the end of line 2: the word spill where hlen is above 16 (document 02, ticket 4)
unfoldable pub spill_text : Bool → List ℕ
spill_text spills = cond spills words.spill [] ++ newline

-- line 2: the address bytes and whether they spill, or the refusal
unfoldable pub address_text : List ℕ → Answer header.Address → List ℕ
address_text message (given x) = spaced (bytes_of x.shown message) ++ spill_text x.spills
address_text message (refused number) = space ++ refused_line number
address_text message (needs len) = space ++ refused_line 5

unfoldable pub chaddr_line : List ℕ → List ℕ
chaddr_line message = words.chaddr ++ address_text message (header.chaddr message)

-- an option: its code, its kind, its parts and its value
unfoldable pub option_line : ℕ → List ℕ → ℕ → List ℕ
option_line code v parts =
    named words.option code ++ named words.kind (kind_of code) ++ named words.parts parts ++ words.value ++ spaced v ++ newline

-- the names of the stops
abbrev pub stop_word : walk.Stop → List ℕ
stop_word walk.out = words.stop_out
stop_word walk.end = words.stop_end
stop_word walk.cut_length = words.stop_cut_length
stop_word walk.cut_value = words.stop_cut_value
stop_word walk.cut_continuation = words.stop_cut_continuation

-- a stop and its place
unfoldable pub stop_line : walk.Stop → ℕ → List ℕ
stop_line s at = named (stop_word s) at ++ newline

-- a call of the walk: an option is a line in front of what the calls behind it give, any other answer is the last line
unfoldable pub onward : Answer walk.Found → (ℕ → List ℕ) → List ℕ
onward (given (walk.stop s at)) more = stop_line s at
onward (given (walk.option code v parts at)) more = option_line code v parts ++ more at
onward (refused number) more = refused_line number
onward (needs len) more = refused_line 5

-- call after call from a place, with so much room to join in, no more than so many calls
unfoldable pub lines_in : ℕ → ℕ → List ℕ → ℕ → List ℕ
lines_in zero room area place = []
lines_in (suc k) room area place = onward (walk.step area place room) (lines_in k room area)

-- the lines of the area: an option takes two bytes or more, so a message has fewer calls than bytes
unfoldable pub area_lines : List ℕ → Answer header.Area → List ℕ
area_lines message (given (header.options p)) = lines_in (length message) most_listed (bytes_of p message) 0
area_lines message (given header.wrong_magic) = words.magic_wrong ++ newline
area_lines message (refused number) = refused_line number
area_lines message (needs len) = refused_line 5

-- the whole text: of a message that is too long or too short one line says so
unfoldable pub listing : List ℕ → List ℕ
listing message =
    cond (ltb most_listed (length message)) (words.too_long ++ newline)
    (cond (too_short message) (refused_line 1)
    (message_line message ++ chaddr_line message ++ area_lines message (header.area message)))
