-- How long a listing is at the most: a code's line has 87 characters or fewer and four for each byte of its value, there are no more than 254
-- codes, and their values lie in the message.
-- Assumes nothing.
use mathlib.Core.Path.{◌≡◌, refl, subst}
use Prim.Native.Nat.{ℕ, suc, zero, ◌+◌, ◌*◌, ◌≤◌, ◌<◌}
use native.Mathlib.Omega.{arith}
use native.Mathlib.Numerals.{add-one}
use native.Mathlib.Decide.{dec_lt}
use mathlib.Core.Bool.{Bool, true, false, cond}
use mathlib.Core.List.{List, [], ◌++◌}
use lib.ListN.{length, drop, length-append}
use lib.Seq.{drop-cons}
use Rattle.rfc.specs.Numbers.{Answer, given, refused, needs, least_message, most_bytes}
use Rattle.rfc.specs.Header.{Area, area, options, wrong_magic}
use Rattle.rfc.specs.Kinds.{kind_of}
use Rattle.rfc.specs.Walk.{Found, stop, option}
use Rattle.rfc.specs.Lists.{Bytes}
use Rattle.rfc.specs.Portions.{Portion}
use Rattle.rfc.specs.Aggregate.{fields_of, aggregate, codes_of, overload_of, names_file, names_sname, entry}
use Rattle.rfc.proofs.Header.{message_short, area_refused}
use Rattle.rfc.proofs.Listed.{codes_once, few_codes}
use Rattle.rfc.proofs.OfCode.{parts_fit}
use Rattle.rfc.proofs.Indexed.{Indexed, indexed, value_bytes, bytes_in, bytes_fit}
use Rattle.pen.proofs.Lengths.{word_most, both_most, spaced_most}
use Rattle.lines.specs.Words as words
use Rattle.lines.specs.Words.{newline}
use Rattle.lines.specs.Listing.{most_listed, option_line}
use Rattle.lines.proofs.Room.{number_most, ended, refused_most}
use Rattle.joined_lines.specs.JoinedWords as joined
use Rattle.joined_lines.specs.Joined.{fields_line, codes_line, in_turn, entries_in, fields_lines, joined_lines, joined_listing}
use Rattle.joined_lines.proofs.Telling.{joined_long, joined_whole}

-- The lines
fields_most : (overload : ℕ) → length (fields_line overload) ≤ 26
unfolding fields_line
fields_most overload = go (names_file overload) (names_sname overload)
  where
    go : (file sname : Bool)
        → length (joined.fields ++ joined.options ++ cond file joined.file [] ++ cond sname joined.sname [] ++ newline) ≤ 26
    go true true = omega arith
    go true false = omega arith
    go false true = omega arith
    go false false = omega arith

codes_most : (count : ℕ) → length (codes_line count) ≤ 27
unfolding codes_line
codes_most count = (ended (number_most joined.codes count)).most

option_most : (code : ℕ) (v : List ℕ) (n : ℕ) → Bytes v → length (option_line code v n) ≤ 87 + 4 * length v
unfolding option_line
option_most code v n b =
    let numbers = both_most (both_most (number_most words.option code) (number_most words.kind (kind_of code))) (number_most words.parts n) in
    omega (arith, (ended (both_most (both_most numbers (word_most words.value)) (spaced_most v b))).most)

module _ (message : List ℕ) (bytes : Bytes message) where
  abbrev parts : List Portion
  parts = aggregate (fields_of message)

  abbrev codes : List ℕ
  codes = codes_of parts

  -- the bytes of the codes from an index on, where an option stands: its own, and those of the others
  first_bytes : (index code : ℕ) (v : List ℕ) → Indexed message index code v
      → bytes_in parts (drop index codes) ≡ length v + bytes_in parts (drop (index + 1) codes)
  first_bytes index code v i = rw (add-one index, drop-cons codes index 0 i.inside, i.stands, i.value)

  -- the lines from an index on
  entries_most : (room k index : ℕ) → index ≤ length codes
      → length (entries_in k room message index) + 87 * index ≤ 87 * length codes + 4 * bytes_in parts (drop index codes) + 29
  unfolding entries_in in_turn
  entries_most room zero index h = omega arith
  entries_most room (suc k) index h = go (entry message index room) refl (entries_most room k (index + 1))
    where
      more : List ℕ
      more = entries_in k room message (index + 1)

      go : (a : Answer Found) → entry message index room ≡ a
          → (index + 1 ≤ length codes → length more + 87 * (index + 1) ≤ 87 * length codes + 4 * bytes_in parts (drop (index + 1) codes) + 29)
          → length (in_turn a index more) + 87 * index ≤ 87 * length codes + 4 * bytes_in parts (drop index codes) + 29
      go (given (stop s at)) e r = omega (arith, codes_most index)
      go (given (option code v n at)) e r =
          let i = indexed message index room code v n at e in
          omega (
            arith,
            option_most code v n (subst Bytes i.value (value_bytes message code bytes)),
            r (omega (arith, i.inside)),
            length-append (option_line code v n) more,
            first_bytes index code v i,
          )
      go (refused number) e r = omega (arith, (refused_most number).most)
      go (needs len) e r = omega (arith, (refused_most 5).most)

  module _ (least : least_message ≤ length message) (most : length message ≤ most_listed) where
    read_most : (a : Answer ℕ) → length (fields_lines message a) ≤ most_bytes
    unfolding fields_lines
    read_most (given overload) =
        let lines : List ℕ = entries_in (length message) most_listed message 0 in
        omega (
          arith,
          length-append (fields_line overload) lines,
          fields_most overload,
          entries_most most_listed (length message) 0 (omega arith),
          few_codes message bytes,
          bytes_fit parts codes (codes_once parts),
          parts_fit message least,
        )
    read_most (refused number) = omega (arith, (refused_most number).most)
    read_most (needs len) = omega (arith, (refused_most 5).most)

    lines_most : (a : Answer Area) → length (joined_lines message a) ≤ most_bytes
    unfolding joined_lines
    lines_most (given (options p)) = read_most (overload_of message)
    lines_most (given wrong_magic) = omega arith
    lines_most (refused number) = omega (arith, (refused_most number).most)
    lines_most (needs len) = omega (arith, (refused_most 5).most)

-- The whole text
pub joined_most : (message : List ℕ) → Bytes message → length (joined_listing message) ≤ most_bytes
unfolding joined_lines
joined_most message bytes = go (dec_lt most_listed (length message)) (dec_lt (length message) least_message)
  where
    go : Dec (most_listed < length message) → Dec (length message < least_message) → length (joined_listing message) ≤ most_bytes
    go (yes h) _ = rw (← joined_long message h) (omega arith)
    go (no h) (yes g) =
        rw (← joined_whole message (omega arith), area_refused message (message_short message (omega arith) g)) (omega (arith, (refused_most 1).most))
    go (no h) (no g) = rw (← joined_whole message (omega arith)) (lines_most message bytes (omega arith) (omega arith) (area message))
