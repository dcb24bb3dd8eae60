-- The listing of a message in RFC 3396's reading: its text as ASCII, line by line (document 02, ticket 1).
-- Assumes nothing.
use Rattle.std.specs.Prelude.{ℕ, suc, zero, ◌+◌, cond, List, [], ◌++◌, ltb, length}
use Rattle.rfc.specs.Numbers.{Answer, given, refused, needs}
use Rattle.rfc.specs.Header.{Area, area, options, wrong_magic}
use Rattle.rfc.specs.Walk.{Found, stop, option}
use Rattle.rfc.specs.Aggregate.{overload_of, names_file, names_sname, entry}
use Rattle.pen.specs.Texts.{named}
use Rattle.lines.specs.Words as words
use Rattle.lines.specs.Words.{newline}
use Rattle.lines.specs.Listing.{most_listed, refused_line, option_line}
use Rattle.joined_lines.specs.JoinedWords as joined

-- line 1: the fields that are read, by what option 52 says
unfoldable pub fields_line : ℕ → List ℕ
fields_line overload =
    joined.fields ++ joined.options ++ cond (names_file overload) joined.file [] ++ cond (names_sname overload) joined.sname [] ++ newline

-- the last line: how many codes there are
unfoldable pub codes_line : ℕ → List ℕ
codes_line count = named joined.codes count ++ newline

-- what is at an index: an option is a line in front of what the calls behind it give; where there is none, so many codes came before
unfoldable pub in_turn : Answer Found → ℕ → List ℕ → List ℕ
in_turn (given (stop s at)) index more = codes_line index
in_turn (given (option code v parts at)) index more = option_line code v parts ++ more
in_turn (refused number) index more = refused_line number
in_turn (needs len) index more = refused_line 5

-- index after index, with so much room to join in, no more than so many calls
unfoldable pub entries_in : ℕ → ℕ → List ℕ → ℕ → List ℕ
entries_in zero room message index = []
entries_in (suc k) room message index = in_turn (entry message index room) index (entries_in k room message (index + 1))

-- the lines of the fields that option 52 names; a code takes two bytes or more, so a message has fewer calls than bytes
unfoldable pub fields_lines : List ℕ → Answer ℕ → List ℕ
fields_lines message (given overload) = fields_line overload ++ entries_in (length message) most_listed message 0
fields_lines message (refused number) = refused_line number
fields_lines message (needs len) = refused_line 5

-- with another magic one line says so
unfoldable pub joined_lines : List ℕ → Answer Area → List ℕ
joined_lines message (given (options p)) = fields_lines message (overload_of message)
joined_lines message (given wrong_magic) = words.magic_wrong ++ newline
joined_lines message (refused number) = refused_line number
joined_lines message (needs len) = refused_line 5

-- the whole text: of a message that is too long one line says so
unfoldable pub joined_listing : List ℕ → List ℕ
joined_listing message =
    cond (ltb most_listed (length message)) (words.too_long ++ newline) (joined_lines message (area message))
